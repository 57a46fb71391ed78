-- What instructions do, by what they name (JVMS 6.5).
use Rattle.std.specs.Prelude.{ℕ, ℤ, pos, Bool, not, int_lt, int_le}
use Rattle.java_int.specs.JavaInt.{add_of, sub_of, mul_of, neg_of, shl_of, shr_of, ushr_of, and_of, or_of, xor_of, to_byte_of, to_char_of, to_short_of}
use Rattle.opcodes.specs.declared.instruction.Instr.{Instr}
use Rattle.opcodes.specs.declared.instruction.Instr.TheVariants as instr
use Rattle.program.specs.Operations.{Condition, Always, OfOne, OfTwo, int_equal}
use Rattle.program.specs.Step as java
use Rattle.program.specs.declared.method.MethodId.{MethodId}
use Rattle.program.specs.declared.method.Operand.{Operand}
use Rattle.program.specs.declared.method.Operand.TheVariants as operand
use Rattle.thread_meaning.specs.declared.doing.Unary.{Unary}
use Rattle.thread_meaning.specs.declared.doing.Unary.TheVariants as unary
use Rattle.thread_meaning.specs.declared.doing.Binary.{Binary}
use Rattle.thread_meaning.specs.declared.doing.Binary.TheVariants as binary
use Rattle.thread_meaning.specs.declared.doing.Comparison.{Comparison}
use Rattle.thread_meaning.specs.declared.doing.Comparison.TheVariants as comparison
use Rattle.thread_meaning.specs.declared.doing.Test.{Test}
use Rattle.thread_meaning.specs.declared.doing.Test.TheVariants as test
use Rattle.thread_meaning.specs.declared.doing.Doing.{Doing}
use Rattle.thread_meaning.specs.declared.doing.Doing.TheVariants as doing

-- the operations by their names
abbrev pub unary_op : Unary → ℤ → ℤ
unary_op unary.Negate = neg_of
unary_op unary.ToByte = to_byte_of
unary_op unary.ToChar = to_char_of
unary_op unary.ToShort = to_short_of

abbrev pub binary_op : Binary → ℤ → ℤ → ℤ
binary_op binary.Add = add_of
binary_op binary.Subtract = sub_of
binary_op binary.Multiply = mul_of
binary_op binary.ShiftLeft = shl_of
binary_op binary.ShiftRight = shr_of
binary_op binary.ShiftRightUnsigned = ushr_of
binary_op binary.And = and_of
binary_op binary.Or = or_of
binary_op binary.ExclusiveOr = xor_of

-- the truth value of a comparison
abbrev pub compares : Comparison → ℤ → ℤ → Bool
compares comparison.Equal a b = int_equal a b
compares comparison.NotEqual a b = not (int_equal a b)
compares comparison.Less a b = int_lt a b
compares comparison.GreaterOrEqual a b = int_le b a
compares comparison.Greater a b = int_lt b a
compares comparison.LessOrEqual a b = int_le a b

-- the condition of a jump by its test
abbrev pub condition : Test → Condition
condition test.Always = Always
condition (test.WithZero c) = OfOne (λ a. compares c a (pos 0))
condition (test.OfTwo c) = OfTwo (λ a b. compares c a b)

-- instructions that work on the stack alone, and returns
abbrev pub stack_doing : Instr → Doing
stack_doing instr.Nop = doing.Nothing
stack_doing instr.Pop = doing.Discard
stack_doing instr.Dup = doing.Double
stack_doing instr.Swap = doing.Exchange
stack_doing instr.Ireturn = doing.ReturnInt
stack_doing instr.Return = doing.Return
stack_doing _ = doing.Stuck

-- loads and stores of locals
abbrev pub local_doing : Instr → Doing
local_doing (instr.Iload slot) = doing.LoadInt slot
local_doing instr.Iload0 = doing.LoadInt 0
local_doing instr.Iload1 = doing.LoadInt 1
local_doing instr.Iload2 = doing.LoadInt 2
local_doing instr.Iload3 = doing.LoadInt 3
local_doing (instr.Aload slot) = doing.LoadReference slot
local_doing instr.Aload0 = doing.LoadReference 0
local_doing instr.Aload1 = doing.LoadReference 1
local_doing instr.Aload2 = doing.LoadReference 2
local_doing instr.Aload3 = doing.LoadReference 3
local_doing (instr.Istore slot) = doing.StoreInt slot
local_doing instr.Istore0 = doing.StoreInt 0
local_doing instr.Istore1 = doing.StoreInt 1
local_doing instr.Istore2 = doing.StoreInt 2
local_doing instr.Istore3 = doing.StoreInt 3
local_doing (instr.Astore slot) = doing.StoreReference slot
local_doing instr.Astore0 = doing.StoreReference 0
local_doing instr.Astore1 = doing.StoreReference 1
local_doing instr.Astore2 = doing.StoreReference 2
local_doing instr.Astore3 = doing.StoreReference 3
local_doing (instr.Iinc slot delta) = doing.Increment slot delta
local_doing _ = doing.Stuck

-- operations on ints
abbrev pub operation_doing : Instr → Doing
operation_doing instr.Ineg = doing.Unary unary.Negate
operation_doing instr.I2b = doing.Unary unary.ToByte
operation_doing instr.I2c = doing.Unary unary.ToChar
operation_doing instr.I2s = doing.Unary unary.ToShort
operation_doing instr.Iadd = doing.Binary binary.Add
operation_doing instr.Isub = doing.Binary binary.Subtract
operation_doing instr.Imul = doing.Binary binary.Multiply
operation_doing instr.Ishl = doing.Binary binary.ShiftLeft
operation_doing instr.Ishr = doing.Binary binary.ShiftRight
operation_doing instr.Iushr = doing.Binary binary.ShiftRightUnsigned
operation_doing instr.Iand = doing.Binary binary.And
operation_doing instr.Ior = doing.Binary binary.Or
operation_doing instr.Ixor = doing.Binary binary.ExclusiveOr
operation_doing _ = doing.Stuck

-- jumps
abbrev pub jump_doing : Instr → Doing
jump_doing (instr.Ifeq distance) = doing.Jump (test.WithZero comparison.Equal) distance
jump_doing (instr.Ifne distance) = doing.Jump (test.WithZero comparison.NotEqual) distance
jump_doing (instr.Iflt distance) = doing.Jump (test.WithZero comparison.Less) distance
jump_doing (instr.Ifge distance) = doing.Jump (test.WithZero comparison.GreaterOrEqual) distance
jump_doing (instr.Ifgt distance) = doing.Jump (test.WithZero comparison.Greater) distance
jump_doing (instr.Ifle distance) = doing.Jump (test.WithZero comparison.LessOrEqual) distance
jump_doing (instr.IfIcmpeq distance) = doing.Jump (test.OfTwo comparison.Equal) distance
jump_doing (instr.IfIcmpne distance) = doing.Jump (test.OfTwo comparison.NotEqual) distance
jump_doing (instr.IfIcmplt distance) = doing.Jump (test.OfTwo comparison.Less) distance
jump_doing (instr.IfIcmpge distance) = doing.Jump (test.OfTwo comparison.GreaterOrEqual) distance
jump_doing (instr.IfIcmpgt distance) = doing.Jump (test.OfTwo comparison.Greater) distance
jump_doing (instr.IfIcmple distance) = doing.Jump (test.OfTwo comparison.LessOrEqual) distance
jump_doing (instr.Goto distance) = doing.Jump test.Always distance
jump_doing _ = doing.Stuck

-- the first, where it is not stuck
abbrev pub or_else : Doing → Doing → Doing
or_else doing.Stuck d = d
or_else d _ = d

-- what an instruction does that names nothing
abbrev pub own_doing : Instr → Doing
own_doing i = or_else (stack_doing i) (or_else (local_doing i) (or_else (operation_doing i) (jump_doing i)))

-- what an instruction does that names a variable, a monitor, or the object of a thread
abbrev pub access_doing : Instr → ℕ → Doing
access_doing (instr.Getstatic index) v = doing.Read v
access_doing (instr.Putstatic index) v = doing.Write v
access_doing _ v = doing.Stuck

abbrev pub monitor_doing : Instr → ℕ → Doing
monitor_doing (instr.Ldc index) m = doing.Put (java.Monitor m)
monitor_doing (instr.LdcW index) m = doing.Put (java.Monitor m)
monitor_doing instr.Monitorenter m = doing.Lock m
monitor_doing instr.Monitorexit m = doing.Unlock m
monitor_doing _ m = doing.Stuck

abbrev pub making_doing : Instr → ℕ → Doing
making_doing (instr.New index) k = doing.Put (java.Object k)
making_doing (instr.Invokespecial index) k = doing.Construct k
making_doing _ k = doing.Stuck

abbrev pub target_doing : Instr → ℕ → Doing
target_doing (instr.New index) k = doing.Put (java.Target k)
target_doing (instr.Invokespecial index) k = doing.ConstructTarget k
target_doing _ k = doing.Stuck

abbrev pub wrapping_doing : Instr → ℕ → Doing
wrapping_doing (instr.Invokespecial index) k = doing.Wrap k
wrapping_doing _ k = doing.Stuck

-- what a call of an object's method does, by what the method does
abbrev pub calling_doing : Instr → Doing → Doing
calling_doing (instr.Invokevirtual index) d = d
calling_doing _ d = doing.Stuck

abbrev pub out_doing : Instr → Doing
out_doing (instr.Getstatic index) = doing.Put java.Out
out_doing _ = doing.Stuck

abbrev pub static_doing : Instr → MethodId → Doing
static_doing (instr.Invokestatic index) id = doing.Call id
static_doing _ id = doing.Stuck

-- what an instruction does that names this, where isAlive finds these threads ended
abbrev pub doing_of : (ℕ → Bool) → Instr → Operand → Doing
doing_of ended i (operand.Constant n) = doing.Push n
doing_of ended i (operand.Variable v) = access_doing i v
doing_of ended i (operand.Monitor m) = monitor_doing i m
doing_of ended i (operand.Make k) = making_doing i k
doing_of ended i (operand.Target k) = target_doing i k
doing_of ended i (operand.Wrap k) = wrapping_doing i k
doing_of ended i (operand.Start k) = calling_doing i (doing.Start k)
doing_of ended i (operand.Join k) = calling_doing i (doing.Join k)
doing_of ended i (operand.Alive k) = calling_doing i (doing.Ask k (ended k))
doing_of ended i (operand.Method id) = static_doing i id
doing_of ended i operand.Out = out_doing i
doing_of ended i operand.Print = doing.Print
doing_of ended i operand.Nothing = own_doing i
