-- Members that are committed one after the other.
use Rattle.std.specs.Prelude.{◌≡◌, ◌++◌, List, [], ◌∷◌, All, Bool, true, false}
use Rattle.program.specs.Program.{Prog}
use Rattle.program.specs.declared.method.Method.{Method}
use Rattle.action_orders.specs.declared.action.ActionRef.{ActionRef}
use Rattle.action_orders.specs.declared.action.Entry.{Entry}
use Rattle.action_orders.specs.declared.sequence.SequenceStep.{SequenceStep}
use Rattle.action_orders.specs.Execution.{Exec}
use Rattle.action_orders.specs.Sequence.{Ascends, with_member}
use Rattle.action_orders.specs.Spelling.{IsSpeltRef}
use Rattle.straight.specs.Laws.{all_ids, unread_ids, sequence_of}
use Rattle.straight.specs.Meaning.{main_entries}
use Rattle.straight_sequence.specs.Defaults.{AreDefaultsInOrder}

-- the sequence after these members were committed to its last step
abbrev pub with_members : List SequenceStep → List ActionRef → List SequenceStep
with_members s [] = s
with_members s (m ∷ members) = with_members (with_member s m) members

-- the last step may take these members
pub record IsOpen (s : List SequenceStep) (members : List ActionRef) : Type 0 where
  pub before : List SequenceStep
  pub set : List ActionRef
  pub execution : Exec
  pub is : s ≡ before ++ record { set = set; execution = execution } ∷ []
  pub increasing : Ascends (set ++ members)
  pub spelt : All IsSpeltRef members

-- the identifiers of these actions, with those of the reads or without them
abbrev pub ids_of : Bool → List Entry → List ActionRef
ids_of true entries = all_ids entries
ids_of false entries = unread_ids entries

-- the sequence of the program's one method
abbrev pub IsSequenceOf : Prog → List SequenceStep → Type 0
IsSequenceOf p s = (m : Method) → p.methods ≡ m ∷ [] → (defaults : List ActionRef) × AreDefaultsInOrder p defaults × (s ≡ sequence_of p m defaults)

-- the actions of the program's one method
abbrev pub AreMainEntries : Prog → List Entry → Type 0
AreMainEntries p entries = (m : Method) → p.methods ≡ m ∷ [] → entries ≡ main_entries p m
