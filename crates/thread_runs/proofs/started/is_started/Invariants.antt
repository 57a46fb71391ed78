-- No action so far starts the thread.
use Rattle.std.proofs.Common.{◌<◌, ℕ}
use Rattle.program.specs.declared.kind.Kind.TheVariants.{Start}
use Rattle.action_orders.specs.declared.action.Action.{Action}
use Rattle.action_orders.specs.declared.action.ActionOperand.TheVariants.{Thread}
use Rattle.action_orders.specs.Actions.{Is, Of}
use Rattle.orders.specs.Flat.{IsAt}
use Rattle.thread_runs.proofs.started.is_started.Given as goal

abbrev pub invariant-loop-at : goal.invariant-loop-at
invariant-loop-at l = (k : ℕ) (a : Action) → k < l.at → IsAt l.orders.flat.execution.now k a → Is Start (Thread l.thread) (Of a) → ⊥
