-- A program has one graph.
use Rattle.std.proofs.Common.{◌≡◌, ◌+◌, ◌↔◌, Bool, true, false, List, [], ◌∷◌, ◌++◌, Some, Contains, length, refl, sym, ap, ap₂, subst, ◌∙◌}
use Rattle.line_text.specs.declared.bounds.Bounds.{Bounds}
use Rattle.program.specs.Program.{Prog}
use Rattle.thread_meaning.specs.Paths.{IsOrdered}
use Rattle.spots.proofs.Same.{spot_total}
use Rattle.spots.specs.Order.{spot_cmp}
use Rattle.spots.specs.declared.spot.Position.{Position}
use Rattle.spots.specs.declared.spot.Position.TheVariants.{Begin, At, End}
use Rattle.spots.specs.declared.spot.Spot.{Spot}
use Rattle.spots.specs.declared.spot.Standing.{Standing}
use Rattle.graph_shape.proofs.Order.{edge_total}
use Rattle.graph_shape.specs.Edges.{IsEdge, edge_cmp}
use Rattle.graph_shape.specs.declared.edge.Edge.{Edge}
use Rattle.node_details.specs.Actions.{act_of}
use Rattle.node_details.specs.Frames.{FrameThere}
use Rattle.node_details.specs.Nodes.{IsBare, IsDetailsAt, IsStandingIn, action_in, are_some, constant_of}
use Rattle.node_details.specs.Slots.{int_slots_of, sizes_of}
use Rattle.node_details.specs.declared.details.NodeDetails.{NodeDetails}
use Rattle.node_details.specs.declared.details.NodeInstruction.{NodeInstruction}
use Rattle.program_graph.specs.Graph.{AreDetails, IsGraph, actions_from}
use Rattle.program_graph.specs.declared.graph.Graph.{Graph}
use Rattle.graph_laws.proofs.OneKnown.{one_list_known}
use Rattle.graph_laws.proofs.OneList.{one_sorted}

-- ---- Lists that end with one item

pub record SameEnd {A : Type 0} (xs ys : List A) (x y : A) : Type 0 where
  pub firsts : xs ≡ ys
  pub last : x ≡ y

same_end : {A : Type 0} (xs ys : List A) (x y : A) → xs ++ x ∷ [] ≡ ys ++ y ∷ [] → SameEnd xs ys x y
same_end [] [] x y e = record { firsts = refl; last = cc }
same_end [] (z ∷ []) x y e = (let rest : [] ≡ y ∷ [] = cc in absurd cc)
same_end [] (z ∷ w ∷ ys) x y e = (let rest : [] ≡ w ∷ (ys ++ y ∷ []) = cc in absurd cc)
same_end (z ∷ []) [] x y e = (let rest : x ∷ [] ≡ [] = cc in absurd cc)
same_end (z ∷ w ∷ xs) [] x y e = (let rest : w ∷ (xs ++ x ∷ []) ≡ [] = cc in absurd cc)
same_end (z ∷ xs) (w ∷ ys) x y e =
    let rest = same_end xs ys x y cc in
    let head : z ≡ w = cc in
    record { firsts = ap₂ (λ q qs. q ∷ qs) head rest.firsts; last = rest.last }

-- ---- Details

same_details : (d e : NodeDetails) → d.instruction ≡ e.instruction → d.action ≡ e.action → d ≡ e
same_details d e i a = λ t. record { instruction = i t; action = a t }

one_bare : (k : _) (d e : NodeDetails) → IsBare k d → IsBare k e → d ≡ e
one_bare k d e a b = same_details d e (a.instruction ∙ sym b.instruction) (a.action ∙ sym b.action)

same_instruction : (m n : NodeInstruction) → m.place ≡ n.place → m.instr ≡ n.instr → m.names ≡ n.names → m.constant ≡ n.constant → m.parameters ≡ n.parameters → m.base ≡ n.base →
    m.top ≡ n.top → m.int_slots ≡ n.int_slots → m ≡ n
same_instruction m n p i o c q b t s = λ k. record { place = p k; instr = i k; names = o k; constant = c k; parameters = q k; base = b k; top = t k; int_slots = s k }

one_standing : (p : Prog) (stand : Standing) (d e : NodeDetails) → IsOrdered p → IsStandingIn p stand d → IsStandingIn p stand e → d ≡ e
one_standing p stand d e ordered a b =
    let frames = one_list_known p stand.places _ _ ordered a.known b.known in
    let ends = same_end a.outer b.outer a.innermost b.innermost frames in
    let places = same_end a.is.calls b.is.calls a.at.place b.at.place (sym a.is.place ∙ b.is.place) in
    let f : a.innermost ≡ b.innermost = ends.last in
    let same : a.at ≡ b.at = same_instruction a.at b.at places.last
    (a.is.instr ∙ ap (λ (x : FrameThere). x.instr) f ∙ sym b.is.instr)
    (a.is.names ∙ ap (λ (x : FrameThere). x.names) f ∙ sym b.is.names)
    (a.is.constant ∙ ap (λ (x : FrameThere). constant_of stand.answer x.names) f ∙ sym b.is.constant)
    (a.is.parameters ∙ ap (λ (x : FrameThere). x.frame.parameters) f ∙ sym b.is.parameters)
    (a.is.base ∙ ap sizes_of ends.firsts ∙ sym b.is.base)
    (a.is.top ∙ ap₂ (λ (xs : List FrameThere) (x : FrameThere). sizes_of xs + x.frame.max_locals + length x.state.stack) ends.firsts f ∙ sym b.is.top)
    (a.is.int_slots ∙ ap (int_slots_of 0) frames ∙ sym b.is.int_slots) in
    same_details d e (a.instruction ∙ ap Some same ∙ sym b.instruction)
    (a.action ∙ ap₂ (λ (fs : List FrameThere) (act : _). action_in fs act) frames
    (ap₂ (λ (xs : List FrameThere) (x : FrameThere). act_of p x (are_some xs) stand.answer) ends.firsts f) ∙ sym b.action)

one_detail : (p : Prog) (position : Position) (d e : NodeDetails) → IsOrdered p → IsDetailsAt p position d → IsDetailsAt p position e → d ≡ e
one_detail p Begin d e ordered a b = one_bare _ d e a b
one_detail p (At stand) d e ordered a b = one_standing p stand d e ordered a b
one_detail p End d e ordered a b = one_bare _ d e a b

one_list_of_details : (p : Prog) (spots : List Spot) (ds es : List NodeDetails) → IsOrdered p → AreDetails p spots ds → AreDetails p spots es → ds ≡ es
one_list_of_details p [] [] [] ordered a b = refl
one_list_of_details p [] [] (e ∷ es) ordered a b = absurd b
one_list_of_details p [] (d ∷ ds) es ordered a b = absurd a
one_list_of_details p (s ∷ spots) [] es ordered a b = absurd a
one_list_of_details p (s ∷ spots) (d ∷ ds) [] ordered a b = absurd b
one_list_of_details p (s ∷ spots) (d ∷ ds) (e ∷ es) ordered a b =
    ap₂ (λ x xs. x ∷ xs) (one_detail p s.position d e ordered a.0 b.0) (one_list_of_details p spots ds es ordered a.1 b.1)

-- ---- The graph

one_bool : (a b : Bool) → (a ≡ true → b ≡ true) → (b ≡ true → a ≡ true) → a ≡ b
one_bool true b there back = sym (there refl)
one_bool false true there back = back refl
one_bool false false there back = refl

same_graph : (g h : Graph) → g.bounds ≡ h.bounds → g.variables ≡ h.variables → g.spots ≡ h.spots → g.details ≡ h.details → g.edges ≡ h.edges → g.actions ≡ h.actions →
    g.whole ≡ h.whole → g ≡ h
same_graph g h b v s d e a w = λ t. record { bounds = b t; variables = v t; spots = s t; details = d t; edges = e t; actions = a t; whole = w t }

pub one_graph : (p : Prog) (bounds : Bounds) (g h : Graph) → IsOrdered p → IsGraph p bounds g → IsGraph p bounds h → g ≡ h
one_graph p bounds g h ordered a b =
    same_graph g h (a.bounds_are ∙ sym b.bounds_are) (a.variables ∙ sym b.variables) spots details edges
    (a.actions ∙ ap (actions_from 0) details ∙ sym b.actions)
    (one_bool g.whole h.whole (λ w. b.whole.1 (a.whole.0 w)) (λ w. a.whole.1 (b.whole.0 w)))
  where
    spots : g.spots ≡ h.spots
    spots = one_sorted spot_cmp spot_total g.spots h.spots a.ordered b.ordered (λ s there. (b.nodes s).1 ((a.nodes s).0 there)) (λ s there. (a.nodes s).1 ((b.nodes s).0 there))

    details : g.details ≡ h.details
    details = one_list_of_details p h.spots g.details h.details ordered (subst (λ (ss : List Spot). AreDetails p ss g.details) spots a.details) b.details

    edges_of : (e : Edge) → Contains g.edges e ↔ IsEdge p bounds.jumps h.spots e
    edges_of e = subst (λ (ss : List Spot). Contains g.edges e ↔ IsEdge p bounds.jumps ss e) spots (a.edges e)

    edges : g.edges ≡ h.edges
    edges = one_sorted edge_cmp edge_total g.edges h.edges a.edges_ordered b.edges_ordered (λ e there. (b.edges e).1 ((edges_of e).0 there)) (λ e there. (edges_of e).1 ((b.edges e).0 there))
