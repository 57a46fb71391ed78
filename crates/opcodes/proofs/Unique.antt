-- One instruction at most stands at a place of the code.
use Rattle.std.proofs.Common.{◌≡◌, ◌+◌, ℕ, ℤ, List, Some, slice_get, slice_index, refl, sym, ap, subst, ◌∙◌}
use Rattle.std.specs.Prelude.{find, ◌==◌}
use Rattle.std.specs.Option.{option_map}
use Rattle.std.specs.Int.{w8, w16, cast_signed}
use Rattle.std.proofs.lemmas.Option.{same_Some}
use Rattle.opcodes.specs.declared.instruction.Instr.{Instr}
use Rattle.opcodes.specs.declared.instruction.Instr.TheVariants.{Nop, Bipush, Sipush, Ldc, LdcW, Iload, Aload, Istore, Astore, Iinc, Ifeq, Ifne, Iflt, Ifge, Ifgt, Ifle, IfIcmpeq, IfIcmpne, IfIcmplt, IfIcmpge, IfIcmpgt, IfIcmple, Goto, Getstatic, Putstatic, Invokevirtual, Invokespecial, Invokestatic, New}
use Rattle.opcodes.specs.declared.opcode.TheConstants.{OPCODES}
use Rattle.opcodes.specs.Instructions.{number_of, length_of, operands_of, two_bytes, AreOperands, Decodes}

abbrev signed_byte : List ℕ → ℕ → ℤ
signed_byte code at = cast_signed w8 (slice_index code at)

abbrev signed_two_bytes : List ℕ → ℕ → ℤ
signed_two_bytes code at = cast_signed w16 (two_bytes code at)

-- the form of an instruction with the operands that stand in the code
abbrev filled : Instr → List ℕ → ℕ → Instr
filled (Bipush _) code at = Bipush (signed_byte code at)
filled (Sipush _) code at = Sipush (signed_two_bytes code at)
filled (Ldc _) code at = Ldc (slice_index code at)
filled (LdcW _) code at = LdcW (two_bytes code at)
filled (Iload _) code at = Iload (slice_index code at)
filled (Aload _) code at = Aload (slice_index code at)
filled (Istore _) code at = Istore (slice_index code at)
filled (Astore _) code at = Astore (slice_index code at)
filled (Iinc _ _) code at = Iinc (slice_index code at) (signed_byte code (at + 1))
filled (Ifeq _) code at = Ifeq (signed_two_bytes code at)
filled (Ifne _) code at = Ifne (signed_two_bytes code at)
filled (Iflt _) code at = Iflt (signed_two_bytes code at)
filled (Ifge _) code at = Ifge (signed_two_bytes code at)
filled (Ifgt _) code at = Ifgt (signed_two_bytes code at)
filled (Ifle _) code at = Ifle (signed_two_bytes code at)
filled (IfIcmpeq _) code at = IfIcmpeq (signed_two_bytes code at)
filled (IfIcmpne _) code at = IfIcmpne (signed_two_bytes code at)
filled (IfIcmplt _) code at = IfIcmplt (signed_two_bytes code at)
filled (IfIcmpge _) code at = IfIcmpge (signed_two_bytes code at)
filled (IfIcmpgt _) code at = IfIcmpgt (signed_two_bytes code at)
filled (IfIcmple _) code at = IfIcmple (signed_two_bytes code at)
filled (Goto _) code at = Goto (signed_two_bytes code at)
filled (Getstatic _) code at = Getstatic (two_bytes code at)
filled (Putstatic _) code at = Putstatic (two_bytes code at)
filled (Invokevirtual _) code at = Invokevirtual (two_bytes code at)
filled (Invokespecial _) code at = Invokespecial (two_bytes code at)
filled (Invokestatic _) code at = Invokestatic (two_bytes code at)
filled (New _) code at = New (two_bytes code at)
filled form code at = form

-- an instruction is the row of its number with its operands
rebuilt : (instr : Instr) (code : List ℕ) (at : ℕ) → AreOperands code at (operands_of instr) →
    option_map (λ r. filled r.1 code at) (find (λ r. r.0 == number_of instr) OPCODES) ≡ Some instr
rebuilt (Bipush x) code at h = ap (λ n. Some (Bipush n)) (sym h.0)
rebuilt (Sipush x) code at h = ap (λ n. Some (Sipush n)) (sym h.0)
rebuilt (Ldc x) code at h = ap (λ n. Some (Ldc n)) (sym h.0)
rebuilt (LdcW x) code at h = ap (λ n. Some (LdcW n)) (sym h.0)
rebuilt (Iload x) code at h = ap (λ n. Some (Iload n)) (sym h.0)
rebuilt (Aload x) code at h = ap (λ n. Some (Aload n)) (sym h.0)
rebuilt (Istore x) code at h = ap (λ n. Some (Istore n)) (sym h.0)
rebuilt (Astore x) code at h = ap (λ n. Some (Astore n)) (sym h.0)
rebuilt (Iinc x y) code at h = ap (λ n. Some (Iinc (slice_index code at) n)) (sym h.1.0) ∙ ap (λ n. Some (Iinc n y)) (sym h.0)
rebuilt (Ifeq x) code at h = ap (λ n. Some (Ifeq n)) (sym h.0)
rebuilt (Ifne x) code at h = ap (λ n. Some (Ifne n)) (sym h.0)
rebuilt (Iflt x) code at h = ap (λ n. Some (Iflt n)) (sym h.0)
rebuilt (Ifge x) code at h = ap (λ n. Some (Ifge n)) (sym h.0)
rebuilt (Ifgt x) code at h = ap (λ n. Some (Ifgt n)) (sym h.0)
rebuilt (Ifle x) code at h = ap (λ n. Some (Ifle n)) (sym h.0)
rebuilt (IfIcmpeq x) code at h = ap (λ n. Some (IfIcmpeq n)) (sym h.0)
rebuilt (IfIcmpne x) code at h = ap (λ n. Some (IfIcmpne n)) (sym h.0)
rebuilt (IfIcmplt x) code at h = ap (λ n. Some (IfIcmplt n)) (sym h.0)
rebuilt (IfIcmpge x) code at h = ap (λ n. Some (IfIcmpge n)) (sym h.0)
rebuilt (IfIcmpgt x) code at h = ap (λ n. Some (IfIcmpgt n)) (sym h.0)
rebuilt (IfIcmple x) code at h = ap (λ n. Some (IfIcmple n)) (sym h.0)
rebuilt (Goto x) code at h = ap (λ n. Some (Goto n)) (sym h.0)
rebuilt (Getstatic x) code at h = ap (λ n. Some (Getstatic n)) (sym h.0)
rebuilt (Putstatic x) code at h = ap (λ n. Some (Putstatic n)) (sym h.0)
rebuilt (Invokevirtual x) code at h = ap (λ n. Some (Invokevirtual n)) (sym h.0)
rebuilt (Invokespecial x) code at h = ap (λ n. Some (Invokespecial n)) (sym h.0)
rebuilt (Invokestatic x) code at h = ap (λ n. Some (Invokestatic n)) (sym h.0)
rebuilt (New x) code at h = ap (λ n. Some (New n)) (sym h.0)
rebuilt _ code at h = refl

-- the number tells the length
row_length : (instr : Instr) → option_map (λ r. length_of r.1) (find (λ r. r.0 == number_of instr) OPCODES) ≡ Some (length_of instr)
row_length Nop = refl
row_length _ = refl

pub same_length : (i j : Instr) → number_of i ≡ number_of j → length_of i ≡ length_of j
same_length i j same =
    let P : ℕ → Type 0 = λ n. option_map (λ r. length_of r.1) (find (λ r. r.0 == n) OPCODES) ≡ Some (length_of i) in
    same_Some _ _ (sym (subst P same (row_length i)) ∙ row_length j)

pub same_number : (code : List ℕ) (pc m n : ℕ) → slice_get code pc ≡ Some m → slice_get code pc ≡ Some n → m ≡ n
same_number code pc m n e f = same_Some m n (sym e ∙ f)

pub decodes_once : (code : List ℕ) (pc : ℕ) (i j : Instr) → Decodes code pc i → Decodes code pc j → i ≡ j
decodes_once code pc i j d e =
    let same = same_number code pc _ _ d.number e.number in
    let P : ℕ → Type 0 = λ n. option_map (λ r. filled r.1 code (pc + 1)) (find (λ r. r.0 == n) OPCODES) ≡ Some i in
    same_Some _ _ (sym (subst P same (rebuilt i code (pc + 1) d.operands)) ∙ rebuilt j code (pc + 1) e.operands)
