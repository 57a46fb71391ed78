use Rattle.member_sets.proofs.Walked.{IsWalked}
use Rattle.member_sets.proofs.growth.grows.Given as goal

abbrev pub invariant-loop-member : goal.invariant-loop-member
invariant-loop-member l = IsWalked l.fn.small l.fn.large l.member-index l.found l.new
