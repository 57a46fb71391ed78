-- What the instructions of a typed method name (docs/PROFILE.md, "Operands").
use Rattle.std.specs.Prelude.{List, [], ◌∷◌, Option, Some, reverse, slice_get}
use Rattle.opcodes.specs.declared.instruction.Instr.{Instr}
use Rattle.opcodes.specs.declared.instruction.Instr.TheVariants.{Monitorenter, Monitorexit}
use Rattle.opcodes.specs.declared.listed.Listed.{Listed}
use Rattle.program.specs.declared.method.Operand.{Operand}
use Rattle.program.specs.declared.method.Operand.TheVariants as operand
use Rattle.program.specs.declared.value_type.TypedState.{TypedState}
use Rattle.program.specs.declared.value_type.ValueType.{ValueType}
use Rattle.program.specs.declared.value_type.ValueType.TheVariants as value_type
use Rattle.typing.specs.declared.symbol.Symbol.{Symbol}
use Rattle.typing.specs.declared.symbol.Symbol.TheVariants as symbol

-- the type on top of the stack
abbrev pub top_of : TypedState → Option ValueType
top_of state = slice_get (reverse state.stack) 0

-- the thread whose constructor is called
abbrev pub constructed : Option ValueType → Operand
constructed (Some (value_type.Fresh thread)) = operand.Make thread
constructed top = operand.Nothing

-- the thread that is started, and the one whose end is waited for
abbrev pub started : Option ValueType → Operand
started (Some (value_type.Thread thread)) = operand.Start thread
started top = operand.Nothing

abbrev pub joined : Option ValueType → Operand
joined (Some (value_type.Thread thread)) = operand.Join thread
joined top = operand.Nothing

-- the thread that is asked whether it is alive
abbrev pub asked : Option ValueType → Operand
asked (Some (value_type.Thread thread)) = operand.Alive thread
asked top = operand.Nothing

-- the thread whose target's constructor is called, and the one that is made around its target
abbrev pub target_constructed : Option ValueType → Operand
target_constructed (Some (value_type.FreshTarget thread)) = operand.Target thread
target_constructed top = operand.Nothing

abbrev pub wrapped : Option ValueType → Operand
wrapped (Some (value_type.Target thread)) = operand.Wrap thread
wrapped top = operand.Nothing

-- the monitor that is entered or left
abbrev pub monitor_in : Option ValueType → Operand
monitor_in (Some (value_type.Lock monitor)) = operand.Monitor monitor
monitor_in top = operand.Nothing

-- what a name of the constant pool stands for, by the type on top of the stack
abbrev pub named : Symbol → Option ValueType → Operand
named (symbol.Constant n) top = operand.Constant n
named (symbol.Variable variable) top = operand.Variable variable
named symbol.Out top = operand.Out
named symbol.Print top = operand.Print
named (symbol.Monitor monitor) top = operand.Monitor monitor
named (symbol.Make thread) top = operand.Make thread
named symbol.Construct top = constructed top
named (symbol.MakeTarget thread) top = operand.Target thread
named symbol.ConstructTarget top = target_constructed top
named symbol.Wrap top = wrapped top
named symbol.Start top = started top
named symbol.Join top = joined top
named symbol.Alive top = asked top
named (symbol.Call method parameters result) top = operand.Method method
named symbol.Nothing top = operand.Nothing

-- what an instruction names
abbrev pub operand_of : Instr → Symbol → Option ValueType → Operand
operand_of Monitorenter s top = monitor_in top
operand_of Monitorexit s top = monitor_in top
operand_of instr s top = named s top

-- what each instruction of the list names, by the symbols and the typed states in the same order
abbrev pub operands_of : List Listed → List Symbol → List TypedState → List Operand
operands_of (item ∷ items) (s ∷ symbols) (state ∷ states) = operand_of item.instr s (top_of state) ∷ operands_of items symbols states
operands_of items symbols states = []
