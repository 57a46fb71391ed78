-- The text of an execution with a sequence that commits it (docs/TEXTS.md, "Sequences"). Tokens are separated by one blank,
-- and each line ends with a line feed.
use Rattle.std.specs.Prelude.{◌++◌, ◌≡◌, ℕ, [], List, Some, None, codes}
use Rattle.std.specs.List.{flat_map}
use Rattle.std.specs.Fmt.{decimal, signed_decimal}
use Rattle.program.specs.declared.kind.Kind.{Kind}
use Rattle.program.specs.declared.kind.Kind.TheVariants.{Read, Write, VolatileRead, VolatileWrite, Lock, Unlock, First, Last, Start, Detect, Print}
use Rattle.action_orders.specs.declared.action.Action.{Action}
use Rattle.action_orders.specs.declared.action.ActionOperand.{ActionOperand}
use Rattle.action_orders.specs.declared.action.ActionOperand.TheVariants.{Variable, Monitor, Thread}
use Rattle.action_orders.specs.declared.action.ActionOperand.TheVariants as operand
use Rattle.action_orders.specs.declared.action.ActionRef.{ActionRef}
use Rattle.action_orders.specs.declared.action.ActionRef.TheVariants.{Default, Id}
use Rattle.action_orders.specs.declared.action.Entry.{Entry}
use Rattle.action_orders.specs.declared.action.Note.{Note}
use Rattle.action_orders.specs.declared.action.Note.TheVariants.{Sees, Stores}
use Rattle.action_orders.specs.declared.action.Note.TheVariants as note
use Rattle.action_orders.specs.declared.execution.ThreadPart.{ThreadPart}
use Rattle.action_orders.specs.declared.sequence.SequenceStep.{SequenceStep}
use Rattle.action_orders.specs.Execution.{Exec}

-- the word of a kind of action
abbrev pub kind_word : Kind → List ℕ
kind_word Read = codes "read"
kind_word Write = codes "write"
kind_word VolatileRead = codes "vread"
kind_word VolatileWrite = codes "vwrite"
kind_word Lock = codes "lock"
kind_word Unlock = codes "unlock"
kind_word First = codes "first"
kind_word Last = codes "last"
kind_word Start = codes "start"
kind_word Detect = codes "detect"
kind_word Print = codes "print"

-- a variable, a monitor or a thread behind a blank; an action on nothing has no such token
abbrev pub operand_text : ActionOperand → List ℕ
operand_text (Variable class name) = codes " " ++ class ++ codes "." ++ name
operand_text (Monitor class) = codes " " ++ class
operand_text (Thread k) = codes " " ++ decimal k
operand_text operand.Nothing = []

-- the write that a read sees, `-` for the default write, or the value that a write stores, behind a blank
abbrev pub note_text : Note → List ℕ
note_text (Sees (Some id)) = codes " " ++ decimal id
note_text (Sees None) = codes " -"
note_text (Stores value) = codes " " ++ signed_decimal value
note_text note.Nothing = []

-- the identifier of an action and the word of its kind
abbrev pub action_head : Action → List ℕ
action_head a = codes "a " ++ decimal a.id ++ codes " " ++ kind_word a.kind

-- the line of an action
abbrev pub entry_text : Entry → List ℕ
entry_text n = action_head n.action ++ operand_text n.action.operand ++ note_text n.note ++ codes "\n"

-- the line that names a thread
abbrev pub thread_line : ℕ → List ℕ
thread_line k = codes "t " ++ decimal k ++ codes "\n"

-- the lines of a thread that acts, its actions in program order
abbrev pub thread_text : ThreadPart → List ℕ
thread_text t = thread_line t.thread ++ flat_map entry_text t.entries

-- an identifier behind a blank
abbrev pub id_text : ℕ → List ℕ
id_text id = codes " " ++ decimal id

-- the lines of an execution: its threads, and the synchronization order
abbrev pub body_text : Exec → List ℕ
body_text e = flat_map thread_text e.threads ++ codes "so" ++ flat_map id_text e.so ++ codes "\n"

-- a member of a set behind a blank
abbrev pub member_text : ActionRef → List ℕ
member_text (Default class name) = codes " -" ++ class ++ codes "." ++ name
member_text (Id id) = id_text id

-- the lines of a step: its set, and the execution that commits it
abbrev pub step_text : SequenceStep → List ℕ
step_text s = codes "step\ncommit" ++ flat_map member_text s.set ++ codes "\n" ++ body_text s.execution

-- the text of an execution with a sequence
abbrev pub sequence_text : Exec → List SequenceStep → List ℕ
sequence_text e s =
    codes "jmm-sequence 1\nexecution\n" ++ body_text e ++ flat_map step_text s ++ codes "end\n"

-- these bytes are the text of an execution with a sequence
abbrev pub SequenceText : Exec → List SequenceStep → List ℕ → Type 0
SequenceText e s bytes = bytes ≡ sequence_text e s
