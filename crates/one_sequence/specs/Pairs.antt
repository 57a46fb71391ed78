-- Executions and sequences that can be written, and their texts (docs/TEXTS.md, "Sequences").
use Rattle.std.specs.Prelude.{◌≡◌, ◌<◌, ◌^◌, ℕ, List, All, Some, None, ⊤}
use Rattle.program.specs.Ints.{IsInt}
use Rattle.action_orders.specs.declared.action.ActionRef.{ActionRef}
use Rattle.action_orders.specs.declared.action.ActionRef.TheVariants.{Default, Id}
use Rattle.action_orders.specs.declared.action.Entry.{Entry}
use Rattle.action_orders.specs.declared.action.Note.{Note}
use Rattle.action_orders.specs.declared.action.Note.TheVariants.{Sees, Stores, Nothing}
use Rattle.action_orders.specs.declared.sequence.SequenceStep.{SequenceStep}
use Rattle.action_orders.specs.Execution.{Exec}
use Rattle.action_orders.specs.Sequence.{IsSequence}
use Rattle.action_orders.specs.Spelling.{IsKept}
use Rattle.sequence_text.specs.SequenceText.{sequence_text}

-- identifiers are numbers of 64 bits
abbrev pub IsIdentifier : ℕ → Type 0
IsIdentifier id = id < 2 ^ 64

-- a read sees a write by its identifier, and a write stores an int
abbrev pub IsNumberedNote : Note → Type 0
IsNumberedNote (Sees (Some id)) = IsIdentifier id
IsNumberedNote (Sees None) = ⊤
IsNumberedNote (Stores value) = IsInt value
IsNumberedNote Nothing = ⊤

pub record IsNumberedEntry (n : Entry) : Type 0 where
  pub id : IsIdentifier n.action.id
  pub note : IsNumberedNote n.note

-- an execution as its type keeps it
pub record IsWritable (e : Exec) : Type 0 where
  pub kept : IsKept e
  pub entries : All (λ t. All IsNumberedEntry t.entries) e.threads
  pub order : All IsIdentifier e.so

abbrev pub IsNumberedMember : ActionRef → Type 0
IsNumberedMember (Default class name) = ⊤
IsNumberedMember (Id id) = IsIdentifier id

-- a step as the type of sequences keeps it
pub record IsWritableStep (s : SequenceStep) : Type 0 where
  pub members : All IsNumberedMember s.set
  pub execution : IsWritable s.execution

-- the bytes are the text of an execution with a sequence, both as their types keep them
pub record IsTextOf (e : Exec) (s : List SequenceStep) (bytes : List ℕ) : Type 0 where
  pub execution : IsWritable e
  pub sequence : IsSequence s
  pub steps : All IsWritableStep s
  pub text : bytes ≡ sequence_text e s

-- one text belongs to one pair
abbrev pub OneTextOnePair : Type 0
OneTextOnePair = (e f : Exec) (s t : List SequenceStep) (bytes : List ℕ) → IsTextOf e s bytes → IsTextOf f t bytes → (e ≡ f) × (s ≡ t)
