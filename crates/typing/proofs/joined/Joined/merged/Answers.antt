-- What is kept then differs from what was kept, and so is below it.
use Rattle.typing.proofs.Ranks.{joined_less}
use Rattle.typing.specs.Summaries.{summary_of}
use Rattle.typing.proofs.joined.Joined.merged.Goals as goal

pub returns-clause-sinks : goal.returns-clause-sinks
returns-clause-sinks c =
    joined_less (summary_of c.args.self.now) (summary_of c.args.other.now) (summary_of c.in_ok-joined.joined) c.in_ok-joined.ensures (c.in_ok-is_same.ensures.differs c.if-branch.false)
