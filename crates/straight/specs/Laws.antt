-- What is proved of the execution of a straight program.
use Rattle.std.specs.Prelude.{◌≡◌, ◌++◌, ◌↔◌, List, Bool, true, false, not, if◌then◌else◌, map, filter, All, Contains}
use Rattle.std.specs.List.{list_any}
use Rattle.line_text.specs.declared.bounds.Bounds.{Bounds}
use Rattle.java_int.specs.JavaInt.{Fits}
use Rattle.program.specs.Program.{Prog}
use Rattle.program.specs.Straight.{IsStraight}
use Rattle.program.specs.declared.kind.Kind.{Kind}
use Rattle.program.specs.declared.kind.Kind.TheVariants.{Read}
use Rattle.program.specs.declared.method.Method.{Method}
use Rattle.action_orders.specs.declared.action.ActionRef.{ActionRef}
use Rattle.action_orders.specs.declared.action.ActionRef.TheVariants.{Id}
use Rattle.action_orders.specs.declared.action.Entry.{Entry}
use Rattle.action_orders.specs.declared.sequence.SequenceStep.{SequenceStep}
use Rattle.action_orders.specs.Actions.{Default, Var, variables, name_of}
use Rattle.action_orders.specs.Causality.{Commits}
use Rattle.action_orders.specs.Laws.{in_one_step, in_two_steps}
use Rattle.action_orders.specs.Runs.{Prints, IsWithin}
use Rattle.action_orders.specs.Verdict.{AreWellFormed, AreWithin}
use Rattle.action_orders.specs.WellFormed.{IsWellFormed}
use Rattle.straight.specs.Meaning.{execution_of, main_entries, printed_of, ints_of}

abbrev pub is_read : Kind → Bool
is_read Read = true
is_read _ = false

-- the identifiers of the actions, and of those that read nothing
abbrev pub all_ids : List Entry → List ActionRef
all_ids entries = map (λ n. Id n.action.id) entries

abbrev pub unread_ids : List Entry → List ActionRef
unread_ids entries = map (λ n. Id n.action.id) (filter (λ n. not (is_read n.action.kind)) entries)

-- these names are those of the default writes
abbrev pub AreDefaults : Prog → List ActionRef → Type 0
AreDefaults p defaults = (r : ActionRef) → Contains defaults r ↔ ((v : Var) × Contains (variables p) v × (name_of (Default v) ≡ r))

-- one step where nothing is read, else all but the reads and then all
abbrev pub sequence_of : Prog → Method → List ActionRef → List SequenceStep
sequence_of p m defaults =
    if list_any (λ n. is_read n.action.kind) (main_entries p m)
    then in_two_steps (execution_of p m) (defaults ++ unread_ids (main_entries p m)) (defaults ++ all_ids (main_entries p m))
    else in_one_step (execution_of p m) (defaults ++ all_ids (main_entries p m))

-- the execution is well-formed, its run is in bounds, the sequence commits it, and main prints the values
pub record IsJustified (p : Prog) (m : Method) (bounds : Bounds) (defaults : List ActionRef) : Type 0 where
  pub well_formed : IsWellFormed p (execution_of p m)
  pub each_well_formed : AreWellFormed p (sequence_of p m defaults)
  pub within : IsWithin p (execution_of p m) bounds.jumps bounds.width
  pub each_within : AreWithin p (sequence_of p m defaults) bounds
  pub commits : Commits p (execution_of p m) (sequence_of p m defaults)
  pub prints : Prints p (execution_of p m) 0 (printed_of p m)

-- where the ints have the width, all this holds of the execution of a straight program
abbrev pub StraightIsJustified : Type 0
StraightIsJustified = (p : Prog) (h : IsStraight p) (bounds : Bounds) (defaults : List ActionRef) → AreDefaults p defaults → All (Fits bounds.width) (ints_of p h.main) →
    IsJustified p h.main bounds defaults
