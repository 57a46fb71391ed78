-- The listing of faultless code: its first instruction is listed, and each of its places is reached.
use Rattle.std.proofs.Common.{◌≡◌, ◌≢◌, ◌<◌, ◌≤◌, ◌+◌, ◌⊎◌, inl, inr, ℕ, ℤ, pos, Bool, true, false, cond, eqb-true, is_some, List, [], ◌∷◌, Option, None, Some, length, get_or, slice_get, slice_index, sym, ap, subst, ◌∙◌, refl}
use Rattle.std.specs.Prelude.{find, ◌==◌}
use Rattle.std.specs.Int.{w8, w16, cast_signed}
use Rattle.std.proofs.lemmas.Bool.{cases_lt}
use Rattle.std.proofs.lemmas.Option.{slice_get-get_or}
use Rattle.relations.specs.Path.{Walk, here, on}
use Rattle.opcodes.specs.Faults.{HasFault, unknown, cut, IsCut, IsUnknown}
use Rattle.opcodes.specs.Instructions.{number_of, length_of, operands_of, two_bytes, AreOperands, Decodes, Follows}
use Rattle.opcodes.specs.Listing.{StandsAt}
use Rattle.opcodes.specs.Reached.{Reached, IsListingOf}
use Rattle.opcodes.specs.declared.instruction.Instr.{Instr}
use Rattle.opcodes.specs.declared.instruction.Instr.TheVariants.{Nop, IconstM1, Iconst0, Iconst1, Iconst2, Iconst3, Iconst4, Iconst5, Bipush, Sipush, Ldc, LdcW, Iload, Aload, Iload0, Iload1, Iload2, Iload3, Aload0, Aload1, Aload2, Aload3, Istore, Astore, Istore0, Istore1, Istore2, Istore3, Astore0, Astore1, Astore2, Astore3, Pop, Dup, Swap, Iadd, Isub, Imul, Ineg, Ishl, Ishr, Iushr, Iand, Ior, Ixor, Iinc, I2b, I2c, I2s, Ifeq, Ifne, Iflt, Ifge, Ifgt, Ifle, IfIcmpeq, IfIcmpne, IfIcmplt, IfIcmpge, IfIcmpgt, IfIcmple, Goto, Ireturn, Return, Getstatic, Putstatic, Invokevirtual, Invokespecial, Invokestatic, New, Monitorenter, Monitorexit}
use Rattle.opcodes.specs.declared.listed.Listed.{Listed}
use Rattle.typing.specs.Typing.{AllReached, IsListed, Leads}

-- ---- Numbers

-- one instruction for each number
abbrev forms : List Instr
forms =
    Nop ∷ IconstM1 ∷ Iconst0 ∷ Iconst1 ∷ Iconst2 ∷ Iconst3 ∷ Iconst4 ∷ Iconst5
    ∷ Bipush (pos 0) ∷ Sipush (pos 0) ∷ Ldc 0 ∷ LdcW 0 ∷ Iload 0 ∷ Aload 0 ∷ Iload0 ∷ Iload1
    ∷ Iload2 ∷ Iload3 ∷ Aload0 ∷ Aload1 ∷ Aload2 ∷ Aload3 ∷ Istore 0 ∷ Astore 0
    ∷ Istore0 ∷ Istore1 ∷ Istore2 ∷ Istore3 ∷ Astore0 ∷ Astore1 ∷ Astore2 ∷ Astore3
    ∷ Pop ∷ Dup ∷ Swap ∷ Iadd ∷ Isub ∷ Imul ∷ Ineg ∷ Ishl
    ∷ Ishr ∷ Iushr ∷ Iand ∷ Ior ∷ Ixor ∷ Iinc 0 (pos 0) ∷ I2b ∷ I2c
    ∷ I2s ∷ Ifeq (pos 0) ∷ Ifne (pos 0) ∷ Iflt (pos 0) ∷ Ifge (pos 0) ∷ Ifgt (pos 0) ∷ Ifle (pos 0) ∷ IfIcmpeq (pos 0)
    ∷ IfIcmpne (pos 0) ∷ IfIcmplt (pos 0) ∷ IfIcmpge (pos 0) ∷ IfIcmpgt (pos 0) ∷ IfIcmple (pos 0) ∷ Goto (pos 0) ∷ Ireturn ∷ Return
    ∷ Getstatic 0 ∷ Putstatic 0 ∷ Invokevirtual 0 ∷ Invokespecial 0 ∷ Invokestatic 0 ∷ New 0 ∷ Monitorenter ∷ Monitorexit ∷ []

finds : (p : Instr → Bool) (xs : List Instr) (x : Instr) → find p xs ≡ Some x → p x ≡ true
finds p [] x found = cc
finds p (y ∷ ys) x found =
    elim (p y) as (λ b. p y ≡ b → cond b (Some y) (find p ys) ≡ Some x → p x ≡ true) [
      | true ↦ (λ passes found_here. let e : y ≡ x = cc in cc)
      | false ↦ (λ _ found_later. finds p ys x found_later)
    ] refl found

-- each instruction has the number of one of them
has_form : (i : Instr) → is_some (find (λ f. number_of f == number_of i) forms) ≡ true
has_form Nop = refl
has_form _ = refl

found_number : (number : ℕ) (form : Instr) → find (λ f. number_of f == number) forms ≡ Some form → number_of form ≡ number
found_number number form found = eqb-true _ _ (finds (λ f. number_of f == number) forms form found)

found_none : (number : ℕ) → find (λ f. number_of f == number) forms ≡ None → (i : Instr) → number_of i ≢ number
found_none number none i same =
    let found = subst (λ (n : ℕ). is_some (find (λ f. number_of f == n) forms) ≡ true) same (has_form i) in
    let lost : is_some (find (λ f. number_of f == number) forms) ≡ false = ap is_some none in
    let never : true ≡ false = sym found ∙ lost in cc

-- ---- Reading

abbrev signed_byte : List ℕ → ℕ → ℤ
signed_byte code at = cast_signed w8 (slice_index code at)

abbrev signed_two_bytes : List ℕ → ℕ → ℤ
signed_two_bytes code at = cast_signed w16 (two_bytes code at)

-- the form of an instruction with the operands that stand in the code
abbrev filled : Instr → List ℕ → ℕ → Instr
filled (Bipush _) code at = Bipush (signed_byte code at)
filled (Sipush _) code at = Sipush (signed_two_bytes code at)
filled (Ldc _) code at = Ldc (slice_index code at)
filled (LdcW _) code at = LdcW (two_bytes code at)
filled (Iload _) code at = Iload (slice_index code at)
filled (Aload _) code at = Aload (slice_index code at)
filled (Istore _) code at = Istore (slice_index code at)
filled (Astore _) code at = Astore (slice_index code at)
filled (Iinc _ _) code at = Iinc (slice_index code at) (signed_byte code (at + 1))
filled (Ifeq _) code at = Ifeq (signed_two_bytes code at)
filled (Ifne _) code at = Ifne (signed_two_bytes code at)
filled (Iflt _) code at = Iflt (signed_two_bytes code at)
filled (Ifge _) code at = Ifge (signed_two_bytes code at)
filled (Ifgt _) code at = Ifgt (signed_two_bytes code at)
filled (Ifle _) code at = Ifle (signed_two_bytes code at)
filled (IfIcmpeq _) code at = IfIcmpeq (signed_two_bytes code at)
filled (IfIcmpne _) code at = IfIcmpne (signed_two_bytes code at)
filled (IfIcmplt _) code at = IfIcmplt (signed_two_bytes code at)
filled (IfIcmpge _) code at = IfIcmpge (signed_two_bytes code at)
filled (IfIcmpgt _) code at = IfIcmpgt (signed_two_bytes code at)
filled (IfIcmple _) code at = IfIcmple (signed_two_bytes code at)
filled (Goto _) code at = Goto (signed_two_bytes code at)
filled (Getstatic _) code at = Getstatic (two_bytes code at)
filled (Putstatic _) code at = Putstatic (two_bytes code at)
filled (Invokevirtual _) code at = Invokevirtual (two_bytes code at)
filled (Invokespecial _) code at = Invokespecial (two_bytes code at)
filled (Invokestatic _) code at = Invokestatic (two_bytes code at)
filled (New _) code at = New (two_bytes code at)
filled form code at = form

same_number : (i : Instr) (code : List ℕ) (at : ℕ) → number_of (filled i code at) ≡ number_of i
same_number (Bipush _) code at = refl
same_number (Sipush _) code at = refl
same_number (Ldc _) code at = refl
same_number (LdcW _) code at = refl
same_number (Iload _) code at = refl
same_number (Aload _) code at = refl
same_number (Istore _) code at = refl
same_number (Astore _) code at = refl
same_number (Iinc _ _) code at = refl
same_number (Ifeq _) code at = refl
same_number (Ifne _) code at = refl
same_number (Iflt _) code at = refl
same_number (Ifge _) code at = refl
same_number (Ifgt _) code at = refl
same_number (Ifle _) code at = refl
same_number (IfIcmpeq _) code at = refl
same_number (IfIcmpne _) code at = refl
same_number (IfIcmplt _) code at = refl
same_number (IfIcmpge _) code at = refl
same_number (IfIcmpgt _) code at = refl
same_number (IfIcmple _) code at = refl
same_number (Goto _) code at = refl
same_number (Getstatic _) code at = refl
same_number (Putstatic _) code at = refl
same_number (Invokevirtual _) code at = refl
same_number (Invokespecial _) code at = refl
same_number (Invokestatic _) code at = refl
same_number (New _) code at = refl
same_number _ code at = refl

same_length : (i : Instr) (code : List ℕ) (at : ℕ) → length_of (filled i code at) ≡ length_of i
same_length (Bipush _) code at = refl
same_length (Sipush _) code at = refl
same_length (Ldc _) code at = refl
same_length (LdcW _) code at = refl
same_length (Iload _) code at = refl
same_length (Aload _) code at = refl
same_length (Istore _) code at = refl
same_length (Astore _) code at = refl
same_length (Iinc _ _) code at = refl
same_length (Ifeq _) code at = refl
same_length (Ifne _) code at = refl
same_length (Iflt _) code at = refl
same_length (Ifge _) code at = refl
same_length (Ifgt _) code at = refl
same_length (Ifle _) code at = refl
same_length (IfIcmpeq _) code at = refl
same_length (IfIcmpne _) code at = refl
same_length (IfIcmplt _) code at = refl
same_length (IfIcmpge _) code at = refl
same_length (IfIcmpgt _) code at = refl
same_length (IfIcmple _) code at = refl
same_length (Goto _) code at = refl
same_length (Getstatic _) code at = refl
same_length (Putstatic _) code at = refl
same_length (Invokevirtual _) code at = refl
same_length (Invokespecial _) code at = refl
same_length (Invokestatic _) code at = refl
same_length (New _) code at = refl
same_length _ code at = refl

are_operands : (i : Instr) (code : List ℕ) (at : ℕ) → AreOperands code at (operands_of (filled i code at))
are_operands (Bipush _) code at = (refl, tt)
are_operands (Sipush _) code at = (refl, tt)
are_operands (Ldc _) code at = (refl, tt)
are_operands (LdcW _) code at = (refl, tt)
are_operands (Iload _) code at = (refl, tt)
are_operands (Aload _) code at = (refl, tt)
are_operands (Istore _) code at = (refl, tt)
are_operands (Astore _) code at = (refl, tt)
are_operands (Iinc _ _) code at = (refl, (refl, tt))
are_operands (Ifeq _) code at = (refl, tt)
are_operands (Ifne _) code at = (refl, tt)
are_operands (Iflt _) code at = (refl, tt)
are_operands (Ifge _) code at = (refl, tt)
are_operands (Ifgt _) code at = (refl, tt)
are_operands (Ifle _) code at = (refl, tt)
are_operands (IfIcmpeq _) code at = (refl, tt)
are_operands (IfIcmpne _) code at = (refl, tt)
are_operands (IfIcmplt _) code at = (refl, tt)
are_operands (IfIcmpge _) code at = (refl, tt)
are_operands (IfIcmpgt _) code at = (refl, tt)
are_operands (IfIcmple _) code at = (refl, tt)
are_operands (Goto _) code at = (refl, tt)
are_operands (Getstatic _) code at = (refl, tt)
are_operands (Putstatic _) code at = (refl, tt)
are_operands (Invokevirtual _) code at = (refl, tt)
are_operands (Invokespecial _) code at = (refl, tt)
are_operands (Invokestatic _) code at = (refl, tt)
are_operands (New _) code at = (refl, tt)
are_operands _ code at = tt

module _ (code : List ℕ) where
  -- a number that is that of an instruction whose operands are not cut off
  whole_form : (pc number : ℕ) (form : Instr) → slice_get code pc ≡ Some number → number_of form ≡ number → pc + length_of form ≤ length code →
      (i : Instr) × Decodes code pc i
  whole_form pc number form there is fits = (
    filled form code (pc + 1),
    record {
      number = there ∙ ap Some (sym (same_number form code (pc + 1) ∙ is));
      whole = subst (λ (n : ℕ). pc + n ≤ length code) (sym (same_length form code (pc + 1))) fits;
      operands = are_operands form code (pc + 1);
    },
  )

  by_length : (pc number : ℕ) (form : Instr) → slice_get code pc ≡ Some number → number_of form ≡ number → (IsCut code pc → ⊥) →
      (length code < pc + length_of form) ⊎ (pc + length_of form ≤ length code) → (i : Instr) × Decodes code pc i
  by_length pc number form there is uncut (inl beyond) = absurd (uncut (record { instr = form; there = there ∙ ap Some (sym is); beyond = beyond }))
  by_length pc number form there is uncut (inr fits) = whole_form pc number form there is fits

  by_row : (pc number : ℕ) (row : Option Instr) → find (λ f. number_of f == number) forms ≡ row → slice_get code pc ≡ Some number →
      (IsUnknown code pc number → ⊥) → (IsCut code pc → ⊥) → (i : Instr) × Decodes code pc i
  by_row pc number None found there known uncut = absurd (known (record { there = there; unknown = found_none number found }))
  by_row pc number (Some row) found there known uncut =
      by_length pc number row there (found_number number row found) uncut (cases_lt (length code) (pc + length_of row))

  -- a place whose number is known and whose operands are not cut off reads as an instruction
  pub reads_at : (pc : ℕ) → pc < length code → ((number : ℕ) → IsUnknown code pc number → ⊥) → (IsCut code pc → ⊥) → (i : Instr) × Decodes code pc i
  reads_at pc within known uncut =
      let number = get_or code pc 0 in
      by_row pc number (find (λ f. number_of f == number) forms) refl (slice_get-get_or code pc 0 within) (known number) uncut

  module _ (faultless : (pc : ℕ) → HasFault code pc → ⊥) where
    -- a reached place of faultless code reads as an instruction
    pub reads : (pc : ℕ) → Reached code pc → pc < length code → (i : Instr) × Decodes code pc i
    reads pc reached within =
        reads_at pc within (λ number is_unknown. faultless pc (unknown number reached is_unknown)) (λ is_cut. faultless pc (cut reached is_cut))

    module _ (listing : List Listed) (listed : IsListingOf code listing) where
      pub stands : (pc : ℕ) → Reached code pc → pc < length code → (i : Instr) × StandsAt listing pc i
      stands pc reached within = let read = reads pc reached within in (read.0, listed.whole pc read.0 reached read.1)

      -- ---- The start

      pub start : 0 < length code → IsListed listing (pos 0)
      start some = let standing = stands 0 here some in record { pc = 0; is_place = refl; instr = standing.0; stands = standing.1 }

      -- ---- Reached

      next : {a b : ℕ} → Walk (Follows code) a b → (c : ℕ) → Follows code b c → Walk (Follows code) a c
      next here c edge = on edge here
      next (on first rest) c edge = on first (next rest c edge)

      lead : {a b : ℕ} → Reached code a → Follows code a b → Leads listing a b
      lead {a} reached edge = record { instr = edge.instr; stands = listed.whole a edge.instr reached edge.decodes; successor = edge.successor }

      along : {a b : ℕ} → Reached code a → Walk (Follows code) a b → Walk (Leads listing) a b
      along reached here = here
      along reached (on edge rest) = on (lead reached edge) (along (next reached _ edge) rest)

      pub all_reached : AllReached listing
      all_reached pc instr there = along here (listed.reached pc instr there)
