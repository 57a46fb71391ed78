use Rattle.straight_executions.proofs.Outcomes.{ints_fit}
use Rattle.straight_executions.proofs.laws.straight_ints_fit.Goals as goal

pub returns : goal.returns
returns c = ints_fit
