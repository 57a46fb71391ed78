use Rattle.action_orders.proofs.OneThread.{alone_in_order}
use Rattle.action_orders.proofs.laws.alone_in_order.Goals as goal

pub returns : goal.returns
returns c = alone_in_order
