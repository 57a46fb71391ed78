use Rattle.std.proofs.Common.{◌+◌, ◌-◌, length}
use Rattle.refutation_check.specs.Marked.{SameMarks}
use Rattle.refutation_check.proofs.marks.reserve.Given as goal

abbrev pub invariant-loop-marks : goal.invariant-loop-marks
invariant-loop-marks l = SameMarks l.initial.marks.items l.marks.items

abbrev pub decreases-loop-marks : goal.decreases-loop-marks
decreases-loop-marks l = l.number + 1 - length l.marks.items
