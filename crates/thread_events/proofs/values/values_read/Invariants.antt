-- The values of the reads so far.
use Rattle.std.proofs.Common.{take}
use Rattle.thread_events.specs.Gotten.{AreGotten}
use Rattle.thread_events.proofs.values.values_read.Given as goal

abbrev pub invariant-loop-entry : goal.invariant-loop-entry
invariant-loop-entry l = AreGotten l.orders.flat.execution.now (take l.entry-index l.part) l.values
