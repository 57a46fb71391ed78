-- The action precedes none of the threads so far.
use Rattle.std.proofs.Common.{◌<◌, ℕ}
use Rattle.external_actions.specs.Last.{PrecedesBy}
use Rattle.external_actions.proofs.last.LastCommitted.is_before_committed.Given as goal

abbrev pub invariant-loop-thread : goal.invariant-loop-thread
invariant-loop-thread l = (t : ℕ) → t < l.thread → PrecedesBy l.stage t l.at → ⊥
