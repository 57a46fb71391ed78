-- Where one part differs, the summaries differ.
use Rattle.typing.specs.Ranks.{by_local, by_stage}
use Rattle.typing.proofs.joined.Joined.is_same.Goals as goal

pub returns-then-not-branch-clause-differs : goal.returns-then-not-branch-clause-differs
returns-then-not-branch-clause-differs c = λ _. c.in_ok-holds_same.ensures.differs c.if-not-branch.true

pub returns-then-not-branch-2-clause-differs : goal.returns-then-not-branch-2-clause-differs
returns-then-not-branch-2-clause-differs c = λ _.
    let differ = c.in_ok-are_same_threads.ensures.differ c.if-not-branch-2.true in by_stage differ.0 differ.1 differ.2

pub returns-then-not-branch-3-clause-differs : goal.returns-then-not-branch-3-clause-differs
returns-then-not-branch-3-clause-differs c = λ _.
    let differ = c.in_ok-are_same_locals.ensures.differ c.if-not-branch-3.true in by_local differ.0 differ.1 differ.2
