-- The detections so far.
use Rattle.std.proofs.Common.{◌≡◌, ℕ, take}
use Rattle.action_orders.specs.Runs.{detects}
use Rattle.thread_meaning.specs.Tracing.{has_ended}
use Rattle.thread_events.proofs.ended.ended_threads.Given as goal

abbrev pub invariant-loop-entry : goal.invariant-loop-entry
invariant-loop-entry l = (k : ℕ) → has_ended l.ended k ≡ detects (take l.entry-index l.part) k
