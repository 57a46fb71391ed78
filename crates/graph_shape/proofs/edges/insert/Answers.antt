-- Into the set.
use Rattle.std.proofs.Common.{subst, true}
use Rattle.std.specs.BTreeSet.{Updates}
use Rattle.std.specs.declared.cmp.Ordering.{Ordering}
use Rattle.reached_spots.proofs.Sets.{has}
use Rattle.graph_shape.proofs.Order.{edge_total, one_edge, one_edge_order}
use Rattle.graph_shape.specs.declared.edge.Edge.{Edge}
use Rattle.graph_shape.proofs.edges.insert.Goals as goal

pub returns : goal.returns
returns c =
    has edge_total one_edge c.args.edges.now c.insert.new.self c.args.edge
    (subst (λ (R : Edge → Edge → Ordering). Updates R c.args.edges.now c.insert.new.self c.args.edge true) one_edge_order c.in-Ok.ensures.updates)
