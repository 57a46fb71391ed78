-- Edges between spots.
use Rattle.std.specs.Prelude.{◌≡◌, ℕ, Contains, List, Some, slice_get}
use Rattle.std.specs.Ordering.{bool_cmp, nat_cmp, on, then_cmp}
use Rattle.std.specs.declared.cmp.Ordering.{Ordering}
use Rattle.program.specs.Program.{Prog}
use Rattle.spots.specs.Spots.{Leads}
use Rattle.spots.specs.declared.leads.Lead.{Lead}
use Rattle.spots.specs.declared.spot.Spot.{Spot}
use Rattle.graph_shape.specs.declared.edge.Edge.{Edge}

-- by the first spot, by whether a jump is taken, by the second spot
abbrev pub edge_cmp : Edge → Edge → Ordering
edge_cmp = then_cmp (on (λ e. e.from) nat_cmp) (then_cmp (on (λ e. e.taken) bool_cmp) (on (λ e. e.to) nat_cmp))

-- a step leads from one spot of the list to another
pub record IsEdge (p : Prog) (limit : ℕ) (spots : List Spot) (edge : Edge) : Type 0 where
  pub first : Spot
  pub second : Spot
  pub is_first : slice_get spots edge.from ≡ Some first
  pub is_second : slice_get spots edge.to ≡ Some second
  pub leads : Leads p limit first edge.taken second

-- such an edge from the spot at this place
pub record IsEdgeFrom (p : Prog) (limit : ℕ) (spots : List Spot) (from : ℕ) (edge : Edge) : Type 0 where
  pub begins : edge.from ≡ from
  pub is_edge : IsEdge p limit spots edge

-- the edge of a step that leads from the spot at this place
pub record IsEdgeAlong (spots : List Spot) (from : ℕ) (step : Lead) (edge : Edge) : Type 0 where
  pub begins : edge.from ≡ from
  pub taken : edge.taken ≡ step.taken
  pub second : slice_get spots edge.to ≡ Some step.to

-- the edge of one of these steps
abbrev pub IsEdgeOf : List Spot → ℕ → List Lead → Edge → Type 0
IsEdgeOf spots from steps edge = (step : Lead) × Contains steps step × IsEdgeAlong spots from step edge
