-- What instructions do to the types of a frame, by what they name (JVMS 6.5).
use Rattle.std.specs.Prelude.{ℕ, Bool, true, false, Option, Some, None, if◌then◌else◌}
use Rattle.std.specs.Option.{option_map, option_or, unwrap_or, is_some}
use Rattle.opcodes.specs.declared.instruction.Instr.{Instr}
use Rattle.opcodes.specs.declared.instruction.Instr.TheVariants as instr
use Rattle.program.specs.Operations.{Condition, Always, OfOne, OfTwo, int_load_of, reference_load_of, int_store_of, reference_store_of, unary_of, binary_of, condition_of}
use Rattle.program.specs.declared.value_type.ValueType.TheVariants.{Out, Lock}
use Rattle.typing.specs.declared.deed.Deed.{Deed}
use Rattle.typing.specs.declared.deed.Deed.TheVariants as deed
use Rattle.typing.specs.declared.symbol.Symbol.{Symbol}
use Rattle.typing.specs.declared.symbol.Symbol.TheVariants as symbol

-- how many ints a jump tests
abbrev pub tested_ints : Condition → ℕ
tested_ints Always = 0
tested_ints (OfOne test) = 1
tested_ints (OfTwo test) = 2

-- instructions that work on the stack, a local or a monitor, and returns
abbrev pub stack_deed : Instr → Deed
stack_deed instr.Nop = deed.Operate 0 false
stack_deed instr.Pop = deed.Discard
stack_deed instr.Dup = deed.Double
stack_deed instr.Swap = deed.Exchange
stack_deed (instr.Iinc slot delta) = deed.Increment slot
stack_deed instr.Monitorenter = deed.Enter
stack_deed instr.Monitorexit = deed.Leave
stack_deed instr.Return = deed.Return
stack_deed instr.Ireturn = deed.ReturnInt
stack_deed _ = deed.Misplaced

-- operations on ints, and jumps
abbrev pub jump_deed : Instr → Option ℕ → Deed
jump_deed i (Some ints) = deed.Operate ints false
jump_deed i None = stack_deed i

abbrev pub operation_deed : Instr → Deed
operation_deed i =
    if is_some (unary_of i) then deed.Operate 1 true else (if is_some (binary_of i) then deed.Operate 2 true else jump_deed i (option_map tested_ints (condition_of i)))

-- loads and stores of locals
abbrev pub local_deed : Instr → Option Deed
local_deed i =
    option_or (option_map deed.LoadInt (int_load_of i)) (option_or (option_map deed.LoadReference (reference_load_of i))
    (option_or (option_map deed.StoreInt (int_store_of i)) (option_map deed.StoreReference (reference_store_of i))))

-- what an instruction does that names nothing
abbrev pub own_deed : Instr → Deed
own_deed i = unwrap_or (local_deed i) (operation_deed i)

-- constants
abbrev pub constant_deed : Instr → Deed
constant_deed instr.IconstM1 = deed.Operate 0 true
constant_deed instr.Iconst0 = deed.Operate 0 true
constant_deed instr.Iconst1 = deed.Operate 0 true
constant_deed instr.Iconst2 = deed.Operate 0 true
constant_deed instr.Iconst3 = deed.Operate 0 true
constant_deed instr.Iconst4 = deed.Operate 0 true
constant_deed instr.Iconst5 = deed.Operate 0 true
constant_deed (instr.Bipush value) = deed.Operate 0 true
constant_deed (instr.Sipush value) = deed.Operate 0 true
constant_deed (instr.Ldc index) = deed.Operate 0 true
constant_deed (instr.LdcW index) = deed.Operate 0 true
constant_deed _ = deed.Misplaced

-- reads and writes of variables
abbrev pub access_deed : Instr → Deed
access_deed (instr.Getstatic index) = deed.Operate 0 true
access_deed (instr.Putstatic index) = deed.Operate 1 false
access_deed _ = deed.Misplaced

-- the object of System.out
abbrev pub out_deed : Instr → Deed
out_deed (instr.Getstatic index) = deed.Push Out
out_deed _ = deed.Misplaced

-- the class object of a monitor
abbrev pub monitor_deed : Instr → ℕ → Deed
monitor_deed (instr.Ldc index) m = deed.Push (Lock m)
monitor_deed (instr.LdcW index) m = deed.Push (Lock m)
monitor_deed _ m = deed.Misplaced

-- an object is made, and its constructor called
abbrev pub making_deed : Instr → Deed → Deed
making_deed (instr.New index) d = d
making_deed _ d = deed.Misplaced

abbrev pub constructor_deed : Instr → Deed → Deed
constructor_deed (instr.Invokespecial index) d = d
constructor_deed _ d = deed.Misplaced

-- a call of an object's method, by what the method does
abbrev pub virtual_deed : Instr → Deed → Deed
virtual_deed (instr.Invokevirtual index) d = d
virtual_deed _ d = deed.Misplaced

-- a call of a static method: ints are taken, and an int or nothing is left
abbrev pub static_deed : Instr → ℕ → Bool → Deed
static_deed (instr.Invokestatic index) ints leaves = deed.Operate ints leaves
static_deed _ ints leaves = deed.Misplaced

-- what an instruction does that names this
abbrev pub deed_of : Instr → Symbol → Deed
deed_of i (symbol.Constant n) = constant_deed i
deed_of i (symbol.Variable v) = access_deed i
deed_of i symbol.Out = out_deed i
deed_of i symbol.Print = virtual_deed i deed.Print
deed_of i (symbol.Monitor m) = monitor_deed i m
deed_of i (symbol.Make k) = making_deed i (deed.Make k)
deed_of i symbol.Construct = constructor_deed i deed.Construct
deed_of i (symbol.MakeTarget k) = making_deed i (deed.MakeTarget k)
deed_of i symbol.ConstructTarget = constructor_deed i deed.ConstructTarget
deed_of i symbol.Wrap = constructor_deed i deed.Wrap
deed_of i symbol.Start = virtual_deed i deed.Start
deed_of i symbol.Join = virtual_deed i deed.Join
deed_of i symbol.Alive = virtual_deed i deed.Ask
deed_of i (symbol.Call method parameters leaves) = static_deed i parameters leaves
deed_of i symbol.Nothing = own_deed i
