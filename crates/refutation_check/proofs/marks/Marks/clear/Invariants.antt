use Rattle.std.proofs.Common.{length}
use Rattle.refutation_check.proofs.Trail.{IsTakenBack}
use Rattle.refutation_check.proofs.marks.Marks.clear.Given as goal

abbrev pub invariant-loop-number : goal.invariant-loop-number
invariant-loop-number l = IsTakenBack l.self-inside.marks.items l.self-inside.trail.items

abbrev pub decreases-loop-number : goal.decreases-loop-number
decreases-loop-number l = length l.self-inside.trail.items
