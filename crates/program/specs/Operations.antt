-- What single instructions do with ints and locals (JVMS 6.5).
use Rattle.std.specs.Prelude.{ℕ, ℤ, pos, Bool, not, ◌&&◌, Option, Some, None, int_lt, int_le, ⊤}
use Rattle.java_int.specs.JavaInt.{add_of, sub_of, mul_of, neg_of, shl_of, shr_of, ushr_of, and_of, or_of, xor_of, to_byte_of, to_char_of, to_short_of}
use Rattle.opcodes.specs.declared.instruction.Instr.{Instr}
use Rattle.opcodes.specs.declared.instruction.Instr.TheVariants.{Ldc, LdcW, Iload, Iload0, Iload1, Iload2, Iload3, Aload, Aload0, Aload1, Aload2, Aload3, Istore, Istore0, Istore1, Istore2, Istore3, Astore, Astore0, Astore1, Astore2, Astore3, Iadd, Isub, Imul, Ineg, Ishl, Ishr, Iushr, Iand, Ior, Ixor, I2b, I2c, I2s, Ifeq, Ifne, Iflt, Ifge, Ifgt, Ifle, IfIcmpeq, IfIcmpne, IfIcmplt, IfIcmpge, IfIcmpgt, IfIcmple, Goto}

-- ---- Locals

-- the local whose int is pushed
abbrev pub int_load_of : Instr → Option ℕ
int_load_of (Iload slot) = Some slot
int_load_of Iload0 = Some 0
int_load_of Iload1 = Some 1
int_load_of Iload2 = Some 2
int_load_of Iload3 = Some 3
int_load_of _ = None

-- the local whose reference is pushed
abbrev pub reference_load_of : Instr → Option ℕ
reference_load_of (Aload slot) = Some slot
reference_load_of Aload0 = Some 0
reference_load_of Aload1 = Some 1
reference_load_of Aload2 = Some 2
reference_load_of Aload3 = Some 3
reference_load_of _ = None

-- the local into which an int is popped
abbrev pub int_store_of : Instr → Option ℕ
int_store_of (Istore slot) = Some slot
int_store_of Istore0 = Some 0
int_store_of Istore1 = Some 1
int_store_of Istore2 = Some 2
int_store_of Istore3 = Some 3
int_store_of _ = None

-- the local into which a reference is popped
abbrev pub reference_store_of : Instr → Option ℕ
reference_store_of (Astore slot) = Some slot
reference_store_of Astore0 = Some 0
reference_store_of Astore1 = Some 1
reference_store_of Astore2 = Some 2
reference_store_of Astore3 = Some 3
reference_store_of _ = None

-- ---- Operations

-- an operation on one int
abbrev pub unary_of : Instr → Option (ℤ → ℤ)
unary_of Ineg = Some neg_of
unary_of I2b = Some to_byte_of
unary_of I2c = Some to_char_of
unary_of I2s = Some to_short_of
unary_of _ = None

-- an operation on two ints, the upper one on the stack being the second
abbrev pub binary_of : Instr → Option (ℤ → ℤ → ℤ)
binary_of Iadd = Some add_of
binary_of Isub = Some sub_of
binary_of Imul = Some mul_of
binary_of Ishl = Some shl_of
binary_of Ishr = Some shr_of
binary_of Iushr = Some ushr_of
binary_of Iand = Some and_of
binary_of Ior = Some or_of
binary_of Ixor = Some xor_of
binary_of _ = None

-- the push of a pool entry
abbrev pub LoadsConstant : Instr → Type 0
LoadsConstant (Ldc index) = ⊤
LoadsConstant (LdcW index) = ⊤
LoadsConstant _ = ⊥

-- ---- Jumps

-- when a jump is taken: always, or where one int or two ints pass a test, the upper one on the stack being the second
pub data Condition : Type 0 where
  Always : Condition
  OfOne : (ℤ → Bool) → Condition
  OfTwo : (ℤ → ℤ → Bool) → Condition

abbrev pub int_equal : ℤ → ℤ → Bool
int_equal a b = int_le a b && int_le b a

abbrev pub condition_of : Instr → Option Condition
condition_of (Ifeq distance) = Some (OfOne (λ a. int_equal a (pos 0)))
condition_of (Ifne distance) = Some (OfOne (λ a. not (int_equal a (pos 0))))
condition_of (Iflt distance) = Some (OfOne (λ a. int_lt a (pos 0)))
condition_of (Ifge distance) = Some (OfOne (λ a. int_le (pos 0) a))
condition_of (Ifgt distance) = Some (OfOne (λ a. int_lt (pos 0) a))
condition_of (Ifle distance) = Some (OfOne (λ a. int_le a (pos 0)))
condition_of (IfIcmpeq distance) = Some (OfTwo (λ a b. int_equal a b))
condition_of (IfIcmpne distance) = Some (OfTwo (λ a b. not (int_equal a b)))
condition_of (IfIcmplt distance) = Some (OfTwo (λ a b. int_lt a b))
condition_of (IfIcmpge distance) = Some (OfTwo (λ a b. int_le b a))
condition_of (IfIcmpgt distance) = Some (OfTwo (λ a b. int_lt b a))
condition_of (IfIcmple distance) = Some (OfTwo (λ a b. int_le a b))
condition_of (Goto distance) = Some Always
condition_of _ = None
