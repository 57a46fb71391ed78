-- The walk stands on the way of the run; the jumps left, and the code left, become less.
use Rattle.std.proofs.Common.{length}
use Rattle.thread_meaning.specs.Tracing.{has_ended}
use Rattle.thread_meaning.proofs.Measure.{left_to_do}
use Rattle.thread_meaning.proofs.UnderWay.{UnderWay}
use Rattle.thread_meaning.proofs.tracing.follow.Given as goal

abbrev pub invariant-steps : goal.invariant-steps
invariant-steps l = UnderWay l.program l.thread (has_ended l.ended) l.reads l.bounds l.walk

abbrev pub decreases-steps : goal.decreases-steps
decreases-steps l = left_to_do 4294967297 (length l.program.methods) l.walk.jumps l.walk.frames
