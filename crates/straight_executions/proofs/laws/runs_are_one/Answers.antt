use Rattle.straight_executions.proofs.Along.{runs_alike}
use Rattle.straight_executions.proofs.laws.runs_are_one.Goals as goal

pub returns : goal.returns
returns c = runs_alike
