-- One edge.
use Rattle.graph_shape.proofs.Adding.{along_one, same}
use Rattle.graph_shape.proofs.Order.{once}
use Rattle.graph_shape.proofs.edges.add_edge.Goals as goal

pub returns : goal.returns
returns c = λ e.
    same (c.in_ok-insert.ensures e)
    (along_one c.args.spots.now c.args.from c.args.lead.now c.in-Some.to
    (λ n at. once c.args.spots.now c.args.lead.now.to c.requires.ordered n c.in-Some.to at c.in-Some.ensures.some) c.in-Some.ensures.some e)
