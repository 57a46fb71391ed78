use Rattle.straight_executions.proofs.Earlier.{order_is_earlier}
use Rattle.straight_executions.proofs.laws.order_is_earlier.Goals as goal

pub returns : goal.returns
returns c = order_is_earlier
