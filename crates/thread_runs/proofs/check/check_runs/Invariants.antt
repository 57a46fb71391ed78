-- The threads so far.
use Rattle.thread_runs.specs.Judged.{AreSeen}
use Rattle.thread_runs.proofs.check.check_runs.Given as goal

abbrev pub invariant-loop-thread : goal.invariant-loop-thread
invariant-loop-thread l = AreSeen l.orders.flat.program.now l.orders.flat.execution.now l.bounds l.thread l.past
