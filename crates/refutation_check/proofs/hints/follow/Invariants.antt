use Rattle.std.proofs.Common.{take}
use Rattle.refutation_check.proofs.HintLaws.{FollowedTo}
use Rattle.refutation_check.proofs.hints.follow.Given as goal

abbrev pub invariant-loop-hint : goal.invariant-loop-hint
invariant-loop-hint l = FollowedTo l.live l.initial.marks (take l.hint-index l.before) l.marks
