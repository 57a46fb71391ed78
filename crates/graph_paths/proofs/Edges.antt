-- From lists of edges to lists of steps, and back.
use Rattle.std.proofs.Common.{◌≡◌, ◌↔◌, ℕ, Bool, List, [], ◌∷◌, Some, slice_get, refl, sym, ap, subst, ◌∙◌}
use Rattle.std.proofs.lemmas.Option.{same_Some, slice_get_within}
use Rattle.relations.specs.Path.{Walk, here}
use Rattle.program.proofs.Lists.{place_of}
use Rattle.program.specs.Program.{Prog}
use Rattle.spots.specs.Spots.{IsReached, Lands, Leads, StepsTo, begin_of, end_of, ends, stands}
use Rattle.spots.specs.Spots as spec
use Rattle.spots.specs.declared.leads.Lead.{Lead}
use Rattle.spots.specs.declared.spot.Spot.{Spot}
use Rattle.reached_spots.proofs.Exploring.{reached_next}
use Rattle.graph_shape.proofs.Order.{once}
use Rattle.graph_shape.specs.declared.edge.Edge.{Edge}
use Rattle.spot_routes.proofs.Apart.{one_answered_route}
use Rattle.spot_routes.proofs.Following.{route_of, steps_along, walk_of}
use Rattle.spot_routes.specs.Routes.{AnsweredHop, IsAnsweredRoute, IsTrail, steps_of}
use Rattle.pruned_graph.specs.declared.pruned.PrunedGraph.{PrunedGraph}
use Rattle.graph_paths.specs.Paths.{AreEdgesOf, AreOneToOne, IsEdgePath, IsEdgesOfRoute, IsFromEndToEnd, IsGraphOf}

-- ---- Steps stay in their thread

landed : (p : Prog) (thread jumps : ℕ) (to : Spot) {places : _} → Lands p thread jumps places to → to.thread ≡ thread
landed p thread jumps to (ends e is) = ap (λ (s : Spot). s.thread) is
landed p thread jumps to (stands stand at callers e is counted chain answer) = ap (λ (s : Spot). s.thread) is

same_thread : (p : Prog) (limit : ℕ) (a b : Spot) (taken : Bool) → Leads p limit a taken b → b.thread ≡ a.thread
same_thread p limit a b taken (spec.begins places position start t lands) = landed p a.thread 0 b lands
same_thread p limit a b taken (spec.steps stand hop position successor t few lands) = landed p a.thread _ b lands

-- ---- One list for each

module _ (p : Prog) (limit : ℕ) (g : PrunedGraph) (is : IsGraphOf p limit g) where
  one_to : (s : Spot) (i j : ℕ) → slice_get g.spots i ≡ Some s → slice_get g.spots j ≡ Some s → i ≡ j
  one_to s i j first second = once g.spots s is.ordered i j first second

  pub one_list : (steps : List Lead) (from : ℕ) (xs ys : List Edge) → AreEdgesOf g.spots from steps xs →
      AreEdgesOf g.spots from steps ys → xs ≡ ys
  one_list [] from [] [] first second = refl
  one_list [] from [] (y ∷ ys) first second = absurd second
  one_list [] from (x ∷ xs) ys first second = absurd first
  one_list (step ∷ steps) from [] ys first second = absurd first
  one_list (step ∷ steps) from (x ∷ xs) [] first second = absurd second
  one_list (step ∷ steps) from (x ∷ xs) (y ∷ ys) first second =
      let begins : x.from ≡ y.from = first.0.begins ∙ sym second.0.begins in
      let taken : x.taken ≡ y.taken = first.0.taken ∙ sym second.0.taken in
      let to : x.to ≡ y.to = one_to step.to x.to y.to first.0.second second.0.second in
      let rest = one_list steps y.to xs ys (subst (λ (n : ℕ). AreEdgesOf g.spots n steps xs) to first.1) second.1 in
      λ i. record { from = begins i; taken = taken i; to = to i } ∷ rest i

  pub one_list_of_steps : (edges : List Edge) (from : ℕ) (xs ys : List Lead) → AreEdgesOf g.spots from xs edges →
      AreEdgesOf g.spots from ys edges → xs ≡ ys
  one_list_of_steps [] from [] [] first second = refl
  one_list_of_steps [] from [] (y ∷ ys) first second = absurd second
  one_list_of_steps [] from (x ∷ xs) ys first second = absurd first
  one_list_of_steps (edge ∷ edges) from [] ys first second = absurd first
  one_list_of_steps (edge ∷ edges) from (x ∷ xs) [] first second = absurd second
  one_list_of_steps (edge ∷ edges) from (x ∷ xs) (y ∷ ys) first second =
      let taken : x.taken ≡ y.taken = sym first.0.taken ∙ second.0.taken in
      let to : x.to ≡ y.to = same_Some x.to y.to (sym first.0.second ∙ second.0.second) in
      let rest = one_list_of_steps edges edge.to xs ys first.1 second.1 in
      λ i. record { taken = taken i; to = to i } ∷ rest i

  -- ---- From edges to steps

  pub steps_behind : (edges : List Edge) (from to : ℕ) (a z : Spot) → slice_get g.spots from ≡ Some a →
      slice_get g.spots to ≡ Some z → IsEdgePath g.edges from edges to →
      (steps : List Lead) × IsTrail p limit a steps z × AreEdgesOf g.spots from steps edges
  steps_behind [] from to a z first last path =
      ([], same_Some a z (sym first ∙ ap (slice_get g.spots) path ∙ last), tt)
  steps_behind (edge ∷ edges) from to a z first last path =
      let one = (is.edges edge).0 path.0 in
      let same : one.first ≡ a = same_Some one.first a (sym one.is_first ∙ ap (slice_get g.spots) path.1 ∙ first) in
      let rest = steps_behind edges edge.to to one.second z one.is_second last path.2 in
      let step : Lead = record { taken = edge.taken; to = one.second } in (
        step ∷ rest.0,
        (subst (λ (s : Spot). Leads p limit s edge.taken one.second) same one.leads, rest.1),
        (record { begins = path.1; taken = refl; second = one.is_second }, rest.2),
      )

  -- ---- From steps to edges

  pub edges_along : (steps : List Lead) (from to thread : ℕ) (a : Spot) → a.thread ≡ thread → IsReached p limit a →
      slice_get g.spots from ≡ Some a → slice_get g.spots to ≡ Some (end_of thread) →
      IsTrail p limit a steps (end_of thread) → (edges : List Edge) × IsEdgePath g.edges from edges to ×
      AreEdgesOf g.spots from steps edges
  edges_along [] from to thread a of reached first last trail =
      ([], one_to a from to first (last ∙ ap Some (sym trail)), tt)
  edges_along (step ∷ steps) from to thread a of reached first last trail =
      let there : IsReached p limit step.to = reached_next p limit a step.to reached (step.taken, trail.0) in
      let stays : step.to.thread ≡ thread = same_thread p limit a step.to step.taken trail.0 ∙ of in
      let finish : Walk (StepsTo p limit) step.to (end_of step.to.thread) =
      subst (λ (n : ℕ). Walk (StepsTo p limit) step.to (end_of n)) (sym stays)
      (walk_of p limit steps step.to (end_of thread) trail.1) in
      let at = place_of g.spots step.to ((is.nodes step.to).1 (record { is_reached = there; can_end = finish })) in
      let edge : Edge = record { from = from; taken = step.taken; to = at.0 } in
      let rest = edges_along steps at.0 to thread step.to stays there at.1 last trail.1 in (
        edge ∷ rest.0,
        (
          (is.edges edge).1 (record {
            first = a;
            second = step.to;
            is_first = first;
            is_second = at.1;
            leads =
                trail.0;
          }),
          refl,
          rest.1,
        ),
        (record { begins = refl; taken = refl; second = at.1 }, rest.2),
      )

-- ---- Routes

module _ (p : Prog) (limit thread : ℕ) (g : PrunedGraph) (begin
    end : ℕ) (is : IsGraphOf p limit g) (at : IsFromEndToEnd g thread begin end) where
  along_route : (route : List AnsweredHop) → IsAnsweredRoute p limit thread route → (edges : List Edge) ×
      IsEdgePath g.edges begin edges end × AreEdgesOf g.spots begin (steps_of thread 0 route) edges
  along_route route route_is =
      edges_along p limit g is (steps_of thread 0 route) begin end thread (begin_of thread) refl
      (record {
        thread = thread;
        is_thread = slice_get_within
            p.threads thread route_is.begins.id route_is.begins.is_thread;
        walk = here;
      }) at.begins at.ends
      (steps_along p limit thread route route_is)

  pub edge_paths : (edges : List Edge) → IsEdgePath g.edges begin edges end ↔
      ((route : List AnsweredHop) × IsEdgesOfRoute p limit thread g begin route edges)
  edge_paths edges = (to, back)
    where
      to : IsEdgePath g.edges begin edges end → (route : List AnsweredHop) × IsEdgesOfRoute p limit thread g begin
          route edges
      to path =
          let behind = steps_behind p limit g is edges begin
          end (begin_of thread) (end_of thread) at.begins at.ends path in
          let route = route_of p limit thread behind.0 behind.1 in (
            route.0,
            record {
              is_route = route.1;
              along =
                  subst (λ (s : List Lead). AreEdgesOf g.spots begin s edges) route.2 behind.2;
            },
          )

      back : (route : List AnsweredHop) × IsEdgesOfRoute p limit thread g begin route edges → IsEdgePath g.edges begin
          edges end
      back some =
          let along = along_route some.0 some.1.is_route in
          subst (λ (es : List Edge). IsEdgePath g.edges begin
          es end) (one_list p limit g is (steps_of thread 0 some.0) begin
          along.0 edges along.2 some.1.along) along.1

  pub one_to_one : AreOneToOne p limit thread g begin
  one_to_one = record {
    some = λ route route_is. (let along = along_route route route_is in
        (along.0, record { is_route = route_is; along = along.2 }));
    one_list = λ route a b first second. one_list p limit g is (steps_of thread 0 route) begin
        a b first.along second.along;
    one_route = λ edges a b first second.
        one_answered_route p limit thread a b first.is_route second.is_route
        (one_list_of_steps p limit g is edges begin
        (steps_of thread 0 a) (steps_of thread 0 b) first.along second.along);
  }
