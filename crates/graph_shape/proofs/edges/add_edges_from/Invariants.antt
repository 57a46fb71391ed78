-- The edges of the first steps.
use Rattle.std.proofs.Common.{◌↔◌, ◌⊎◌, Contains, take}
use Rattle.graph_shape.specs.Edges.{IsEdgeOf}
use Rattle.graph_shape.specs.declared.edge.Edge.{Edge}
use Rattle.graph_shape.proofs.edges.add_edges_from.Given as goal

abbrev pub invariant-loop-lead : goal.invariant-loop-lead
invariant-loop-lead l = (e : Edge) → Contains l.edges.keys e ↔ (Contains l.fn.edges.keys e ⊎ IsEdgeOf l.spots l.from (take l.lead-index l.lead-items) e)
