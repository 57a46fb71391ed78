use Rattle.action_orders.proofs.CommitsItself.{commits_in_two_steps}
use Rattle.action_orders.proofs.laws.commits_in_two_steps.Goals as goal

pub returns : goal.returns
returns c = commits_in_two_steps
