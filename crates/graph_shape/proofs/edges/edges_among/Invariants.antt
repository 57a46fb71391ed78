-- The edges from the first spots.
use Rattle.std.proofs.Common.{◌↔◌, Contains}
use Rattle.graph_shape.proofs.Adding.{FromBelow}
use Rattle.graph_shape.specs.declared.edge.Edge.{Edge}
use Rattle.graph_shape.proofs.edges.edges_among.Given as goal

abbrev pub invariant-loop-from : goal.invariant-loop-from
invariant-loop-from l = (e : Edge) → Contains l.edges.keys e ↔ FromBelow l.program l.limit l.spots l.from e
