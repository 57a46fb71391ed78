use Rattle.straight_executions.proofs.Outcomes.{prints_once}
use Rattle.straight_executions.proofs.laws.straight_prints_once.Goals as goal

pub returns : goal.returns
returns c = prints_once
