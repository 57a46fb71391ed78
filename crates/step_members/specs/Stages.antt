-- A step of a committing sequence beside the execution that is committed.
use Rattle.std.specs.Prelude.{◌≡◌, ◌↔◌, ℕ, List, Contains}
use Rattle.program.specs.Program.{Prog}
use Rattle.action_orders.specs.declared.action.ActionRef.{ActionRef}
use Rattle.action_orders.specs.declared.action.ActionRef.TheVariants.{Id}
use Rattle.action_orders.specs.declared.sequence.SequenceStep.{SequenceStep}
use Rattle.action_orders.specs.Execution.{Exec}
use Rattle.orders.specs.Made.{IsMade}
use Rattle.step_members.specs.declared.stage.Earlier.{Earlier}
use Rattle.step_members.specs.declared.stage.Stage.{Stage}

abbrev pub program_of : Stage → Prog
program_of s = s.whole.now.flat.program.now

-- the execution that is committed
abbrev pub committed_of : Stage → Exec
committed_of s = s.whole.now.flat.execution.now

-- the step
abbrev pub step_of : Stage → SequenceStep
step_of s = record { set = s.names.now; execution = s.own.now.flat.execution.now }

-- the identifiers of the members that are no default writes
abbrev pub AreIds : List ActionRef → List ℕ → Type 0
AreIds set ids = (id : ℕ) → Contains ids id ↔ Contains set (Id id)

-- the orders are those of two executions of one program, and the identifiers are the set's
pub record IsStage (s : Stage) : Type 0 where
  pub whole : IsMade s.whole.now
  pub own : IsMade s.own.now
  pub program : s.own.now.flat.program.now ≡ s.whole.now.flat.program.now
  pub ids : AreIds s.names.now s.ids.keys

-- the identifiers are those of the set before, which is within the step's
pub record IsEarlier (s : Stage) (b : Earlier) : Type 0 where
  pub ids : AreIds b.names.now b.ids.keys
  pub grows : (a : ActionRef) → Contains b.names.now a → Contains s.names.now a
