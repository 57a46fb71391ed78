-- The code from this place on is straight exactly where all of it is.
use Rattle.straight_check.proofs.Typed.{Same}
use Rattle.straight_check.proofs.code.is_straight_code.Given as goal

abbrev pub invariant-loop-place : goal.invariant-loop-place
invariant-loop-place l = Same l.fn.limits.variables l.fn.limits.max_stack l.listing l.operands l.pc l.stack l.place
