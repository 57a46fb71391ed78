-- The walk has done as many instructions as the index says.
use Rattle.straight.proofs.UnderWay.{IsUnderWay}
use Rattle.straight.proofs.run.run_straight.Given as goal

abbrev pub invariant-loop-place : goal.invariant-loop-place
invariant-loop-place l = IsUnderWay l.program l.main l.place l.walk
