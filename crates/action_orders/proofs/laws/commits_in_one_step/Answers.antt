use Rattle.action_orders.proofs.CommitsItself.{commits_in_one_step}
use Rattle.action_orders.proofs.laws.commits_in_one_step.Goals as goal

pub returns : goal.returns
returns c = commits_in_one_step
