-- The values read so far, and where the ints of the next instructions begin.
use Rattle.straight_trace.proofs.Reading.{IsReading}
use Rattle.straight_trace.proofs.reads.values_read.Given as goal

abbrev pub invariant-loop-place : goal.invariant-loop-place
invariant-loop-place l = IsReading l.listing l.operands l.place l.next l.ints l.reads
