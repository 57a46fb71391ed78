-- The one execution of a straight program: its events in order, with the last write to a variable seen by each read.
use Rattle.std.specs.Prelude.{◌+◌, ◌++◌, ℕ, ℤ, pos, List, [], ◌∷◌, Option, Some, None, slice_get, slice_set, unwrap_or, length, replicate}
use Rattle.opcodes.specs.declared.listed.Listed.{Listed}
use Rattle.program.specs.Program.{Prog}
use Rattle.program.specs.declared.method.Method.{Method}
use Rattle.program.specs.declared.method.Operand.{Operand}
use Rattle.program.specs.declared.kind.Kind.TheVariants as kind
use Rattle.program.specs.declared.program.Variable.{Variable}
use Rattle.action_orders.specs.declared.action.ActionOperand.{ActionOperand}
use Rattle.action_orders.specs.declared.action.ActionOperand.TheVariants as on
use Rattle.action_orders.specs.declared.action.Entry.{Entry}
use Rattle.action_orders.specs.declared.action.Note.TheVariants as note
use Rattle.action_orders.specs.Execution.{Exec}
use Rattle.straight.specs.Doing.{doing_of}
use Rattle.straight.specs.declared.doing.Cell.{Cell}
use Rattle.straight.specs.declared.doing.Doing.{Doing}
use Rattle.straight.specs.declared.doing.Doing.TheVariants.{Push, Read, Write, PushOut, Print, Nothing}
use Rattle.straight.specs.declared.doing.StackItem.{StackItem}
use Rattle.straight.specs.declared.doing.StackItem.TheVariants.{Int, Out}

-- where a straight run stands: its stack from the top down, and what is known of each variable
pub record State : Type 0 where
  pub stack : List StackItem
  pub cells : List Cell

-- a variable that was not written yet
abbrev pub unwritten : Cell
unwritten = record { seen = None; value = pos 0 }

abbrev pub cell_of : State → ℕ → Cell
cell_of s v = unwrap_or (slice_get s.cells v) unwritten

-- the int on top of the stack
abbrev pub top_of : List StackItem → ℤ
top_of (Int n ∷ stack) = n
top_of _ = pos 0

abbrev pub below : List StackItem → List StackItem
below [] = []
below (item ∷ stack) = stack

-- the state after the instruction at this place
abbrev pub after : ℕ → State → Doing → State
after id s (Push n) = record s { stack = Int n ∷ s.stack }
after id s (Read v) = record s { stack = Int (cell_of s v).value ∷ s.stack }
after id s (Write v) = record { stack = below s.stack; cells = slice_set s.cells v (record { seen = Some id; value = top_of s.stack }) }
after id s PushOut = record s { stack = Out ∷ s.stack }
after id s Print = record s { stack = below (below s.stack) }
after id s Nothing = s

-- a variable as the operand of an action
abbrev pub named_by : Option Variable → ActionOperand
named_by None = on.Nothing
named_by (Some declared) = on.Variable declared.class declared.name

-- the variable with this number, as the operand of an action
abbrev pub operand_of : Prog → ℕ → ActionOperand
operand_of p v = named_by (slice_get p.variables v)

-- the action of the instruction at this place, if it has one
abbrev pub entry_at : Prog → ℕ → State → Doing → List Entry
entry_at p id s (Read v) = record { action = record { thread = 0; id = id; kind = kind.Read; operand = operand_of p v }; note = note.Sees (cell_of s v).seen } ∷ []
entry_at p id s (Write v) = record { action = record { thread = 0; id = id; kind = kind.Write; operand = operand_of p v }; note = note.Stores (top_of s.stack) } ∷ []
entry_at p id s Print = record { action = record { thread = 0; id = id; kind = kind.Print; operand = on.Nothing }; note = note.Nothing } ∷ []
entry_at p id s _ = []

-- what it prints
abbrev pub printed_at : State → Doing → List ℤ
printed_at s Print = top_of s.stack ∷ []
printed_at s _ = []

-- the ints that it pushes or stores
abbrev pub ints_at : State → Doing → List ℤ
ints_at s (Push n) = n ∷ []
ints_at s (Read v) = (cell_of s v).value ∷ []
ints_at s (Write v) = top_of s.stack ∷ []
ints_at s _ = []

-- the same for the instructions from a place on; places count from 1
abbrev pub entries_from : Prog → ℕ → State → List Listed → List Operand → List Entry
entries_from p id s [] names = []
entries_from p id s (item ∷ items) [] = []
entries_from p id s (item ∷ items) (o ∷ names) =
    entry_at p id s (doing_of item.instr o) ++ entries_from p (id + 1) (after id s (doing_of item.instr o)) items names

abbrev pub printed_from : ℕ → State → List Listed → List Operand → List ℤ
printed_from id s [] names = []
printed_from id s (item ∷ items) [] = []
printed_from id s (item ∷ items) (o ∷ names) =
    printed_at s (doing_of item.instr o) ++ printed_from (id + 1) (after id s (doing_of item.instr o)) items names

abbrev pub ints_from : ℕ → State → List Listed → List Operand → List ℤ
ints_from id s [] names = []
ints_from id s (item ∷ items) [] = []
ints_from id s (item ∷ items) (o ∷ names) =
    ints_at s (doing_of item.instr o) ++ ints_from (id + 1) (after id s (doing_of item.instr o)) items names

-- the state before the first instruction
abbrev pub initial : Prog → State
initial p = record { stack = []; cells = replicate (length p.variables) unwritten }

-- the first action has the identifier 0, the one of the instruction at place n has n, the last one the next
abbrev pub first_entry : Entry
first_entry = record { action = record { thread = 0; id = 0; kind = kind.First; operand = on.Nothing }; note = note.Nothing }

abbrev pub last_entry : ℕ → Entry
last_entry id = record { action = record { thread = 0; id = id; kind = kind.Last; operand = on.Nothing }; note = note.Nothing }

abbrev pub last_id : Method → ℕ
last_id m = length m.listing + 1

-- the actions of main, in program order
abbrev pub main_entries : Prog → Method → List Entry
main_entries p m = first_entry ∷ entries_from p 1 (initial p) m.listing m.operands ++ last_entry (last_id m) ∷ []

-- the execution of a straight program whose one method is m
abbrev pub execution_of : Prog → Method → Exec
execution_of p m = record { threads = record { thread = 0; entries = main_entries p m } ∷ []; so = 0 ∷ last_id m ∷ [] }

-- what it prints, and the ints that it pushes or stores
abbrev pub printed_of : Prog → Method → List ℤ
printed_of p m = printed_from 1 (initial p) m.listing m.operands

abbrev pub ints_of : Prog → Method → List ℤ
ints_of p m = ints_from 1 (initial p) m.listing m.operands
