-- The instructions: their numbers, their operands, where they are in the code and what follows them.
use Rattle.std.specs.Prelude.{◌≡◌, ◌≤◌, ◌<◌, ◌+◌, ◌*◌, ◌+ℤ◌, ℕ, ℤ, pos, List, [], ◌∷◌, Option, Some, None, length, slice_get, slice_index, sum_by, ⊤}
use Rattle.std.specs.Int.{w8, w16, cast_signed}
use Rattle.opcodes.specs.declared.instruction.Instr.{Instr}
use Rattle.opcodes.specs.declared.instruction.Instr.TheVariants.{Nop, IconstM1, Iconst0, Iconst1, Iconst2, Iconst3, Iconst4, Iconst5, Bipush, Sipush, Ldc, LdcW, Iload, Aload, Iload0, Iload1, Iload2, Iload3, Aload0, Aload1, Aload2, Aload3, Istore, Astore, Istore0, Istore1, Istore2, Istore3, Astore0, Astore1, Astore2, Astore3, Pop, Dup, Swap, Iadd, Isub, Imul, Ineg, Ishl, Ishr, Iushr, Iand, Ior, Ixor, Iinc, I2b, I2c, I2s, Ifeq, Ifne, Iflt, Ifge, Ifgt, Ifle, IfIcmpeq, IfIcmpne, IfIcmplt, IfIcmpge, IfIcmpgt, IfIcmple, Goto, Ireturn, Return, Getstatic, Putstatic, Invokevirtual, Invokespecial, Invokestatic, New, Monitorenter, Monitorexit}

-- the number that stands first in the code (JVMS 6.5 and 7)
abbrev pub number_of : Instr → ℕ
number_of Nop = 0x00
number_of IconstM1 = 0x02
number_of Iconst0 = 0x03
number_of Iconst1 = 0x04
number_of Iconst2 = 0x05
number_of Iconst3 = 0x06
number_of Iconst4 = 0x07
number_of Iconst5 = 0x08
number_of (Bipush _) = 0x10
number_of (Sipush _) = 0x11
number_of (Ldc _) = 0x12
number_of (LdcW _) = 0x13
number_of (Iload _) = 0x15
number_of (Aload _) = 0x19
number_of Iload0 = 0x1a
number_of Iload1 = 0x1b
number_of Iload2 = 0x1c
number_of Iload3 = 0x1d
number_of Aload0 = 0x2a
number_of Aload1 = 0x2b
number_of Aload2 = 0x2c
number_of Aload3 = 0x2d
number_of (Istore _) = 0x36
number_of (Astore _) = 0x3a
number_of Istore0 = 0x3b
number_of Istore1 = 0x3c
number_of Istore2 = 0x3d
number_of Istore3 = 0x3e
number_of Astore0 = 0x4b
number_of Astore1 = 0x4c
number_of Astore2 = 0x4d
number_of Astore3 = 0x4e
number_of Pop = 0x57
number_of Dup = 0x59
number_of Swap = 0x5f
number_of Iadd = 0x60
number_of Isub = 0x64
number_of Imul = 0x68
number_of Ineg = 0x74
number_of Ishl = 0x78
number_of Ishr = 0x7a
number_of Iushr = 0x7c
number_of Iand = 0x7e
number_of Ior = 0x80
number_of Ixor = 0x82
number_of (Iinc _ _) = 0x84
number_of I2b = 0x91
number_of I2c = 0x92
number_of I2s = 0x93
number_of (Ifeq _) = 0x99
number_of (Ifne _) = 0x9a
number_of (Iflt _) = 0x9b
number_of (Ifge _) = 0x9c
number_of (Ifgt _) = 0x9d
number_of (Ifle _) = 0x9e
number_of (IfIcmpeq _) = 0x9f
number_of (IfIcmpne _) = 0xa0
number_of (IfIcmplt _) = 0xa1
number_of (IfIcmpge _) = 0xa2
number_of (IfIcmpgt _) = 0xa3
number_of (IfIcmple _) = 0xa4
number_of (Goto _) = 0xa7
number_of Ireturn = 0xac
number_of Return = 0xb1
number_of (Getstatic _) = 0xb2
number_of (Putstatic _) = 0xb3
number_of (Invokevirtual _) = 0xb6
number_of (Invokespecial _) = 0xb7
number_of (Invokestatic _) = 0xb8
number_of (New _) = 0xbb
number_of Monitorenter = 0xc2
number_of Monitorexit = 0xc3

-- an operand, as it stands in the code: one byte or two, with or without a sign
pub data Operand : Type 0 where
  Byte : ℕ → Operand
  SignedByte : ℤ → Operand
  TwoBytes : ℕ → Operand
  SignedTwoBytes : ℤ → Operand

-- the operands behind the number, in their order (JVMS 6.5)
abbrev pub operands_of : Instr → List Operand
operands_of (Bipush value) = SignedByte value ∷ []
operands_of (Sipush value) = SignedTwoBytes value ∷ []
operands_of (Ldc index) = Byte index ∷ []
operands_of (LdcW index) = TwoBytes index ∷ []
operands_of (Iload slot) = Byte slot ∷ []
operands_of (Aload slot) = Byte slot ∷ []
operands_of (Istore slot) = Byte slot ∷ []
operands_of (Astore slot) = Byte slot ∷ []
operands_of (Iinc slot delta) = Byte slot ∷ SignedByte delta ∷ []
operands_of (Ifeq distance) = SignedTwoBytes distance ∷ []
operands_of (Ifne distance) = SignedTwoBytes distance ∷ []
operands_of (Iflt distance) = SignedTwoBytes distance ∷ []
operands_of (Ifge distance) = SignedTwoBytes distance ∷ []
operands_of (Ifgt distance) = SignedTwoBytes distance ∷ []
operands_of (Ifle distance) = SignedTwoBytes distance ∷ []
operands_of (IfIcmpeq distance) = SignedTwoBytes distance ∷ []
operands_of (IfIcmpne distance) = SignedTwoBytes distance ∷ []
operands_of (IfIcmplt distance) = SignedTwoBytes distance ∷ []
operands_of (IfIcmpge distance) = SignedTwoBytes distance ∷ []
operands_of (IfIcmpgt distance) = SignedTwoBytes distance ∷ []
operands_of (IfIcmple distance) = SignedTwoBytes distance ∷ []
operands_of (Goto distance) = SignedTwoBytes distance ∷ []
operands_of (Getstatic index) = TwoBytes index ∷ []
operands_of (Putstatic index) = TwoBytes index ∷ []
operands_of (Invokevirtual index) = TwoBytes index ∷ []
operands_of (Invokespecial index) = TwoBytes index ∷ []
operands_of (Invokestatic index) = TwoBytes index ∷ []
operands_of (New index) = TwoBytes index ∷ []
operands_of _ = []

-- how many bytes an operand takes
abbrev pub width_of : Operand → ℕ
width_of (Byte _) = 1
width_of (SignedByte _) = 1
width_of (TwoBytes _) = 2
width_of (SignedTwoBytes _) = 2

-- how many bytes an instruction takes
abbrev pub length_of : Instr → ℕ
length_of i = 1 + sum_by width_of (operands_of i)

-- the number in two bytes at a place, the higher byte first (JVMS 4)
abbrev pub two_bytes : List ℕ → ℕ → ℕ
two_bytes code at = 256 * slice_index code at + slice_index code (at + 1)

-- the operand at a place of the code is this one
abbrev pub IsOperand : List ℕ → ℕ → Operand → Type 0
IsOperand code at (Byte n) = n ≡ slice_index code at
IsOperand code at (SignedByte z) = z ≡ cast_signed w8 (slice_index code at)
IsOperand code at (TwoBytes n) = n ≡ two_bytes code at
IsOperand code at (SignedTwoBytes z) = z ≡ cast_signed w16 (two_bytes code at)

-- the operands from a place of the code on are these
abbrev pub AreOperands : List ℕ → ℕ → List Operand → Type 0
AreOperands code at [] = ⊤
AreOperands code at (o ∷ os) = IsOperand code at o × AreOperands code (at + width_of o) os

-- the code has the whole instruction at this place
pub record Decodes (code : List ℕ) (pc : ℕ) (instr : Instr) : Type 0 where
  pub number : slice_get code pc ≡ Some (number_of instr)
  pub whole : pc + length_of instr ≤ length code
  pub operands : AreOperands code (pc + 1) (operands_of instr)

-- how far the instruction may jump, counted from its own number (JVMS 6.5)
abbrev pub jump_of : Instr → Option ℤ
jump_of (Ifeq distance) = Some distance
jump_of (Ifne distance) = Some distance
jump_of (Iflt distance) = Some distance
jump_of (Ifge distance) = Some distance
jump_of (Ifgt distance) = Some distance
jump_of (Ifle distance) = Some distance
jump_of (IfIcmpeq distance) = Some distance
jump_of (IfIcmpne distance) = Some distance
jump_of (IfIcmplt distance) = Some distance
jump_of (IfIcmpge distance) = Some distance
jump_of (IfIcmpgt distance) = Some distance
jump_of (IfIcmple distance) = Some distance
jump_of (Goto distance) = Some distance
jump_of _ = None

-- the next instruction may come next: not so behind a goto and a return
abbrev pub FallsThrough : Instr → Type 0
FallsThrough (Goto _) = ⊥
FallsThrough Ireturn = ⊥
FallsThrough Return = ⊥
FallsThrough _ = ⊤

-- a place that may come next, in the code or outside it
pub data Successor (pc : ℕ) (instr : Instr) (to : ℤ) : Type 0 where
  falls : FallsThrough instr → to ≡ pos (pc + length_of instr) → Successor pc instr to
  jumps : (distance : ℤ) → jump_of instr ≡ Some distance → to ≡ pos pc +ℤ distance → Successor pc instr to

-- a place in the code that may come next after the instruction at another place
pub record Follows (code : List ℕ) (from to : ℕ) : Type 0 where
  pub instr : Instr
  pub decodes : Decodes code from instr
  pub successor : Successor from instr (pos to)
  pub inside : to < length code
