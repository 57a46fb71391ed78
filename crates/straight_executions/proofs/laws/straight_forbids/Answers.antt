use Rattle.straight_executions.proofs.Outcomes.{forbids}
use Rattle.straight_executions.proofs.laws.straight_forbids.Goals as goal

pub returns : goal.returns
returns c = forbids
