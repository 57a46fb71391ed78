-- The least action that differs on the threads so far.
use Rattle.least_break.specs.Least.{IsLeastBreak}
use Rattle.same_orders.specs.Happening.{HappensAlikeBelow}
use Rattle.same_orders.proofs.happening.check_happens_before.Given as goal

abbrev pub invariant-loop-thread : goal.invariant-loop-thread
invariant-loop-thread l = IsLeastBreak (HappensAlikeBelow l.stage l.thread) l.least
