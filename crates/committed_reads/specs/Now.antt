-- Reads that are committed now, and whether what they see was committed before.
use Rattle.std.specs.Prelude.{◌≡◌, ◌⊎◌, ℕ, List, Option, Some, Contains}
use Rattle.action_orders.specs.Actions.{Act, Of, Var, IsAction, IsRead, Sees}
use Rattle.action_orders.specs.Causality.{IsIn}
use Rattle.orders.specs.declared.answers.Orders.{Orders}
use Rattle.orders.specs.Tables.{action_of}
use Rattle.step_members.specs.declared.stage.Earlier.{Earlier}
use Rattle.step_members.specs.declared.stage.Stage.{Stage}
use Rattle.step_members.specs.declared.table.Member.{Member}
use Rattle.step_members.specs.Members.{id_of}
use Rattle.step_members.specs.Stages.{program_of, committed_of}

-- an action of the execution that is committed, or of the step's
abbrev pub IsActionOfEither : Stage → Act → Type 0
IsActionOfEither s x = IsAction (program_of s) (committed_of s) x ⊎ IsAction (program_of s) s.own.now.flat.execution.now x

-- a number of the list
abbrev pub IsOneOf : List ℕ → Option ℕ → Type 0
IsOneOf numbers n = (c : ℕ) × Contains numbers c × (n ≡ Some c)

-- what the action at a place sees, if it is a read, was committed before
abbrev pub SeesCommitted : Stage → Earlier → Orders → ℕ → Type 0
SeesCommitted s b o i = (v : Var) (w : Act) → IsRead v (Of (action_of o.flat i)) → Sees o.flat.execution.now v (Of (action_of o.flat i)) w → IsIn (program_of s) (committed_of s) b.names.now w

-- so it is in both executions, if the action was not committed before
pub record SeesCommittedTwice (s : Stage) (b : Earlier) (m : Member) : Type 0 where
  pub own : SeesCommitted s b s.own.now m.own
  pub whole : SeesCommitted s b s.whole.now m.whole

abbrev pub ReadsCommitted : Stage → Earlier → Member → Type 0
ReadsCommitted s b m = (Contains b.ids.keys (id_of s m) → ⊥) → SeesCommittedTwice s b m
