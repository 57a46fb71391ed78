-- What stands at the nodes and edges of a graph, by number.
use Rattle.std.specs.Prelude.{ℕ, Option, None, Some, Bool, true, false, ◌&&◌, nat_eq, slice_get}
use Rattle.std.specs.List.{list_any}
use Rattle.program.specs.declared.kind.Kind.{Kind}
use Rattle.program.specs.declared.kind.Kind.TheVariants as kind
use Rattle.graph_shape.specs.declared.edge.Edge.{Edge}
use Rattle.node_details.specs.declared.details.NodeAction.{NodeAction}
use Rattle.node_details.specs.declared.details.NodeDetails.{NodeDetails}
use Rattle.node_details.specs.declared.doing.Act.{Act}
use Rattle.spots.specs.declared.spot.Spot.{Spot}
use Rattle.program_graph.specs.declared.graph.Graph.{Graph}

abbrev act_in : Option NodeAction → Option Act
act_in None = None
act_in (Some action) = Some action.act

abbrev act_by : Option NodeDetails → Option Act
act_by None = None
act_by (Some details) = act_in details.action

-- the action of the node with this number, if it has one
abbrev pub act_at : Graph → ℕ → Option Act
act_at g n = act_by (slice_get g.details n)

abbrev is_first : Kind → Bool
is_first kind.First = true
is_first _ = false

abbrev is_last : Kind → Bool
is_last kind.Last = true
is_last _ = false

abbrev is_start : Kind → Bool
is_start kind.Start = true
is_start _ = false

-- whether something is this number
abbrev names : Option ℕ → ℕ → Bool
names None number = false
names (Some n) number = nat_eq n number

abbrev begins : Option Act → Bool
begins None = false
begins (Some act) = is_first act.kind

abbrev ends : Option Act → Bool
ends None = false
ends (Some act) = is_last act.kind

abbrev starts : ℕ → Option Act → Bool
starts thread None = false
starts thread (Some act) = is_start act.kind && names act.operand thread

-- whether a thread begins there
abbrev pub is_begin : Graph → ℕ → Bool
is_begin g n = begins (act_at g n)

-- whether a thread ends there
abbrev pub is_end : Graph → ℕ → Bool
is_end g n = ends (act_at g n)

-- whether the thread with this number is started there
abbrev pub is_start_of : Graph → ℕ → ℕ → Bool
is_start_of g thread n = starts thread (act_at g n)

abbrev is_spot_of : ℕ → Option Spot → Bool
is_spot_of thread None = false
is_spot_of thread (Some s) = nat_eq s.thread thread

-- whether the node is one of this thread
abbrev pub is_node_of : Graph → ℕ → ℕ → Bool
is_node_of g thread n = is_spot_of thread (slice_get g.spots n)

-- whether the thread with this number begins there
abbrev pub is_begin_of : Graph → ℕ → ℕ → Bool
is_begin_of g thread n = is_begin g n && is_node_of g thread n

-- whether the thread with this number has nodes
abbrev pub has_nodes : Graph → ℕ → Bool
has_nodes g thread = list_any (λ s. nat_eq s.thread thread) g.spots

abbrev end_is : (Edge → ℕ) → Option Edge → ℕ → Bool
end_is end None n = false
end_is end (Some e) n = nat_eq (end e) n

-- whether the edge leads from this node
abbrev pub is_from : Graph → ℕ → ℕ → Bool
is_from g n e = end_is (λ x. x.from) (slice_get g.edges e) n

-- whether the edge leads to this node
abbrev pub is_to : Graph → ℕ → ℕ → Bool
is_to g n e = end_is (λ x. x.to) (slice_get g.edges e) n

abbrev leads_beside : Graph → Option Edge → ℕ → Bool
leads_beside g None e = false
leads_beside g (Some other) e = is_from g other.from e

-- whether the edge leads from the node from which this other one leads
abbrev pub is_beside : Graph → ℕ → ℕ → Bool
is_beside g other e = leads_beside g (slice_get g.edges other) e

abbrev end_of : (Edge → ℕ) → Option Edge → ℕ
end_of end None = 0
end_of end (Some e) = end e

-- the node from which an edge leads
abbrev pub from_of : Graph → ℕ → ℕ
from_of g e = end_of (λ x. x.from) (slice_get g.edges e)

-- the node to which it leads
abbrev pub to_of : Graph → ℕ → ℕ
to_of g e = end_of (λ x. x.to) (slice_get g.edges e)

abbrev goes_along : Option Edge → Bool
goes_along None = false
goes_along (Some e) = e.taken

-- whether an edge goes along a jump
abbrev pub is_taken : Graph → ℕ → Bool
is_taken g e = goes_along (slice_get g.edges e)
