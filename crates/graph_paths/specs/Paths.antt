-- Lists of edges of a program's graph, and routes of the program.
use Rattle.std.specs.Prelude.{◌≡◌, ◌↔◌, ℕ, List, [], ◌∷◌, Contains, Some, slice_get}
use Rattle.std.specs.List.Sorted.{IsStrictlySortedBy}
use Rattle.program.specs.Program.{Prog}
use Rattle.spots.specs.Order.{spot_cmp}
use Rattle.spots.specs.Spots.{begin_of, end_of}
use Rattle.spots.specs.declared.leads.Lead.{Lead}
use Rattle.spots.specs.declared.spot.Spot.{Spot}
use Rattle.graph_shape.specs.Edges.{IsEdge, IsEdgeAlong}
use Rattle.graph_shape.specs.declared.edge.Edge.{Edge}
use Rattle.spot_routes.specs.Routes.{AnsweredHop, IsAnsweredRoute, steps_of}
use Rattle.pruned_graph.specs.Pruned.{IsNode}
use Rattle.pruned_graph.specs.declared.pruned.PrunedGraph.{PrunedGraph}

-- the nodes are those of the program in their order, and the edges are those between them
pub record IsGraphOf (p : Prog) (limit : ℕ) (g : PrunedGraph) : Type 0 where
  pub ordered : IsStrictlySortedBy spot_cmp g.spots
  pub nodes : (s : Spot) → Contains g.spots s ↔ IsNode p limit s
  pub edges : (e : Edge) → Contains g.edges e ↔ IsEdge p limit g.spots e

-- edges that lead from one node to another, each from where the one before leads
abbrev pub IsEdgePath : List Edge → ℕ → List Edge → ℕ → Type 0
IsEdgePath all from [] to = from ≡ to
IsEdgePath all from (edge ∷ edges) to = Contains all edge × (edge.from ≡ from) × IsEdgePath all edge.to edges to

-- the edges of these steps, from the node at this place on
abbrev pub AreEdgesOf : List Spot → ℕ → List Lead → List Edge → Type 0
AreEdgesOf spots from [] [] = Unit {0}
AreEdgesOf spots from [] (edge ∷ edges) = ⊥
AreEdgesOf spots from (step ∷ steps) [] = ⊥
AreEdgesOf spots from (step ∷ steps) (edge ∷ edges) = IsEdgeAlong spots from step edge ×
    AreEdgesOf spots edge.to steps edges

-- these places of the graph are where a thread begins and where it ends
pub record IsFromEndToEnd (g : PrunedGraph) (thread begin end : ℕ) : Type 0 where
  pub begins : slice_get g.spots begin ≡ Some (begin_of thread)
  pub ends : slice_get g.spots end ≡ Some (end_of thread)

-- the edges of a route with its answers
pub record IsEdgesOfRoute (p : Prog) (limit thread : ℕ) (g : PrunedGraph) (begin
    : ℕ) (route : List AnsweredHop) (edges : List Edge) : Type 0 where
  pub is_route : IsAnsweredRoute p limit thread route
  pub along : AreEdgesOf g.spots begin (steps_of thread 0 route) edges

-- the lists of edges from the beginning of a thread to its end are those of its routes with their answers
abbrev pub EdgePathsAreRoutes : Type 0
EdgePathsAreRoutes = (p : Prog) (limit thread : ℕ) (g : PrunedGraph) (begin end : ℕ) → IsGraphOf p limit g →
    IsFromEndToEnd g thread begin end → (edges : List Edge) →
    IsEdgePath g.edges begin edges end ↔
    ((route : List AnsweredHop) × IsEdgesOfRoute p limit thread g begin route edges)

-- each route with its answers has one list of edges, and each list of edges is that of one route
pub record AreOneToOne (p : Prog) (limit thread : ℕ) (g : PrunedGraph) (begin : ℕ) : Type 0 where
  pub some : (route : List AnsweredHop) → IsAnsweredRoute p limit thread route → (edges : List Edge) ×
      IsEdgesOfRoute p limit thread g begin route edges
  pub one_list : (route : List AnsweredHop) (a b : List Edge) → IsEdgesOfRoute p limit thread g begin route a →
      IsEdgesOfRoute p limit thread g begin route b → a ≡ b
  pub one_route : (edges : List Edge) (a b : List AnsweredHop) → IsEdgesOfRoute p limit thread g begin a edges →
      IsEdgesOfRoute p limit thread g begin b edges → a ≡ b

abbrev pub OneRouteOnePath : Type 0
OneRouteOnePath = (p : Prog) (limit thread : ℕ) (g : PrunedGraph) (begin end : ℕ) → IsGraphOf p limit g →
    IsFromEndToEnd g thread begin end → AreOneToOne p limit thread g begin
