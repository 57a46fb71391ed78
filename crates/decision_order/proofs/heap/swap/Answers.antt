use Rattle.decision_order.proofs.Placing.{IsPlaced-swap}
use Rattle.decision_order.proofs.heap.swap.Goals as goal

pub returns-clause-placed : goal.returns-clause-placed
returns-clause-placed c = IsPlaced-swap c.args.heap.now c.swap.new.self c.args.places.now c.args.i c.args.j c.requires.placed c.requires.i c.requires.j c.swap.ensures.after
