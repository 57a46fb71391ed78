-- The graph of a program within bounds (docs/GRAPH.md).
use Rattle.std.specs.Prelude.{◌≡◌, ◌<◌, ◌+◌, ◌++◌, ◌↔◌, ℕ, true, List, [], ◌∷◌, Option, Some, None, Contains, length}
use Rattle.std.specs.List.Sorted.{IsStrictlySortedBy}
use Rattle.line_text.specs.declared.bounds.Bounds.{Bounds}
use Rattle.opcodes.specs.declared.instruction.Instr.{Instr}
use Rattle.program.specs.Bounds.{Ends, IsWhole}
use Rattle.program.specs.Program.{Prog, IsInstruction, IsMethod}
use Rattle.program.specs.declared.method.Method.{Method}
use Rattle.program.specs.declared.method.MethodId.{MethodId}
use Rattle.program.specs.declared.method.Operand.TheVariants as operand
use Rattle.spots.specs.Order.{spot_cmp}
use Rattle.spots.specs.declared.spot.Spot.{Spot}
use Rattle.reached_spots.specs.Exploring.{AreTooMany}
use Rattle.graph_shape.specs.Edges.{IsEdge, edge_cmp}
use Rattle.graph_shape.specs.declared.edge.Edge.{Edge}
use Rattle.pruned_graph.specs.Pruned.{IsNode}
use Rattle.node_details.specs.Matched.{AreMatched}
use Rattle.node_details.specs.Nodes.{IsDetailsOf}
use Rattle.node_details.specs.declared.details.NodeAction.{NodeAction}
use Rattle.node_details.specs.declared.details.NodeDetails.{NodeDetails}
use Rattle.program_graph.specs.declared.actions.ActionNode.{ActionNode}
use Rattle.program_graph.specs.declared.graph.Graph.{Graph}

-- ---- Programs that have graphs

-- each instruction of a method has its typed state, and each called method is one of the program, as linked programs have it
pub record IsFit (p : Prog) : Type 0 where
  pub typed : (m : Method) → Contains p.methods m → length m.typed ≡ length m.listing
  pub called : (m : Method) (pc : ℕ) (instr : Instr) (id : MethodId) → Contains p.methods m → IsInstruction m pc instr (operand.Method id) →
      (called : Method) × IsMethod p id called

-- ---- Details and actions

-- what is known of each node
abbrev pub AreDetails : Prog → List Spot → List NodeDetails → Type 0
AreDetails p spots details = AreMatched (IsDetailsOf p) spots details

-- the node with this number, if it has an action
abbrev pub action_at : ℕ → Option NodeAction → List ActionNode
action_at node None = []
action_at node (Some action) = record { node = node; action = action } ∷ []

-- the nodes that have an action, where the first of these has this number
abbrev pub actions_from : ℕ → List NodeDetails → List ActionNode
actions_from node [] = []
actions_from node (d ∷ details) = action_at node d.action ++ actions_from (node + 1) details

-- ---- The graph

-- nodes, edges and what is known of the nodes, whatever their numbers
pub record IsGraph (p : Prog) (bounds : Bounds) (g : Graph) : Type 0 where
  pub bounds_are : g.bounds ≡ bounds
  pub variables : g.variables ≡ length p.variables
  -- the nodes are the spots that are reached and from which the thread can end, in their order
  pub ordered : IsStrictlySortedBy spot_cmp g.spots
  pub nodes : (s : Spot) → Contains g.spots s ↔ IsNode p bounds.jumps s
  -- the edges are the steps from node to node, in their order
  pub edges_ordered : IsStrictlySortedBy edge_cmp g.edges
  pub edges : (e : Edge) → Contains g.edges e ↔ IsEdge p bounds.jumps g.spots e
  pub details : AreDetails p g.spots g.details
  pub actions : g.actions ≡ actions_from 0 g.details
  pub whole : (g.whole ≡ true) ↔ IsWhole p bounds.jumps bounds.width
  -- the threads reach few spots, and each thread can end
  pub not_many : AreTooMany p bounds.jumps → ⊥
  pub ends : (thread : ℕ) → thread < length p.threads → Ends p thread bounds.jumps
