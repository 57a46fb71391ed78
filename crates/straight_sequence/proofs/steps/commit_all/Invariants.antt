-- The members up to the index are committed.
use Rattle.std.proofs.Common.{◌≡◌, take}
use Rattle.straight_sequence.specs.Steps.{with_members}
use Rattle.straight_sequence.proofs.steps.commit_all.Given as goal

abbrev pub invariant-loop-member : goal.invariant-loop-member
invariant-loop-member l = l.sequence ≡ with_members l.fn.sequence (take l.member-index l.members)
