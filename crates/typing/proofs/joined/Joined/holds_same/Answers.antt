-- A monitor is held more often in one than in the other.
use Rattle.typing.specs.Ranks.{by_held}
use Rattle.typing.proofs.joined.Joined.holds_same.Goals as goal

pub returns-then-not-branch-clause-differs : goal.returns-then-not-branch-clause-differs
returns-then-not-branch-clause-differs c = λ _.
    let differ = c.in_ok-are_same_held.ensures.differ c.if-not-branch.true in by_held differ.0 differ.1
