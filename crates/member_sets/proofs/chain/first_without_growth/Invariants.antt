use Rattle.member_sets.specs.Growth.{GrowsBelow}
use Rattle.member_sets.proofs.chain.first_without_growth.Given as goal

abbrev pub invariant-loop-place : goal.invariant-loop-place
invariant-loop-place l = GrowsBelow l.fn.sequence l.place
