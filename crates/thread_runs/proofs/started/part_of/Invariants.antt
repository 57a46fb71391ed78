-- No thread so far is this one.
use Rattle.std.proofs.Common.{◌≡◌, ◌<◌, ℕ, Some, slice_get}
use Rattle.action_orders.specs.declared.execution.ThreadPart.{ThreadPart}
use Rattle.thread_runs.proofs.started.part_of.Given as goal

abbrev pub invariant-loop-part : goal.invariant-loop-part
invariant-loop-part l = (k : ℕ) (t : ThreadPart) → k < l.part-index → slice_get l.execution.threads k ≡ Some t → t.thread ≡ l.thread → ⊥
