-- Steps one after another.
use Rattle.std.proofs.Common.{◌≡◌, ◌≤◌, ◌+◌, ℕ, Bool, cond, List, [], ◌∷◌, All, refl, sym, ap, subst, ◌∙◌}
use native.Mathlib.Omega.{arith}
use Rattle.std.proofs.lemmas.List.Sums.{sum_by-cons}
use Rattle.relations.specs.Path.{Walk, here, on}
use Rattle.program.proofs.Lists.{all_cons, all_head, all_tail}
use Rattle.program.specs.Bounds.{Hop, IsRoute, Place, Successor, backward_jumps, straight_hop}
use Rattle.program.specs.Program.{Prog}
use Rattle.spots.specs.Spots.{StepsTo, begin_of, end_of, jumps_after}
use Rattle.spots.specs.declared.leads.Lead.{Lead}
use Rattle.spots.specs.declared.spot.Spot.{Spot}
use Rattle.spot_routes.specs.Routes.{AnsweredHop, CanAnswer, IsAnsweredRoute, IsTrail, hops_of, spot_at, steps_of}
use Rattle.spot_routes.proofs.Stepping.{entering, enters, goes, going}

-- ---- Counting backward jumps

pub one_more_jump : (hop : Hop) (hops : List Hop) →
    backward_jumps (hop ∷ hops) ≡ cond hop.backward 1 0 + backward_jumps hops
one_more_jump hop hops = sum_by-cons (λ (h : Hop). cond h.backward 1 0) hop hops

-- ---- Steps and walks

pub walk_of : (p : Prog) (limit : ℕ) (steps : List Lead) (a b : Spot) → IsTrail p limit a steps b →
    Walk (StepsTo p limit) a b
walk_of p limit [] a b e = subst (λ (s : Spot). Walk (StepsTo p limit) a s) e here
walk_of p limit (step ∷ steps) a b trail = on (step.taken, trail.0) (walk_of p limit steps step.to b trail.1)

pub trail_of : (p : Prog) (limit : ℕ) (a b : Spot) → Walk (StepsTo p limit) a b → (steps : List Lead) ×
    IsTrail p limit a steps b
trail_of p limit a b here = ([], refl)
trail_of p limit a b (on {b = m} step rest) =
    (let more = trail_of p limit m b rest in (record { taken = step.0; to = m } ∷ more.0, (step.1, more.1)))

-- ---- From steps to routes

-- the steps are those of a route, with few enough backward jumps
pub record IsFollowed (p : Prog) (limit thread jumps : ℕ) (places : List Place) (steps : List Lead) (to : Spot) : Type
    0 where
  pub route : List AnsweredHop
  pub last : List Place
  pub answer : Bool
  pub leads : IsRoute p places (hops_of route) last
  pub few : jumps + backward_jumps (hops_of route) ≤ limit
  pub answers : All (CanAnswer p) route
  pub are : steps ≡ steps_of thread jumps route
  pub is : to ≡ spot_at thread (jumps + backward_jumps (hops_of route)) last answer

module _ (p : Prog) (limit thread : ℕ) where
  no_more : (jumps : ℕ) (places : List Place) (answer : Bool) (to : Spot) → jumps ≤ limit →
      spot_at thread jumps places answer ≡ to → IsFollowed p limit thread jumps places [] to
  no_more jumps places answer to few e = record {
    route = [];
    last = places;
    answer = answer;
    leads = refl;
    few = omega arith;
    answers = λ k d within. absurd (omega arith);
    are = refl;
    is = sym e ∙ ap (λ (n : ℕ). spot_at thread n places answer) (let f : jumps ≡ jumps + 0 = omega arith in f);
  }

  one_more : (jumps : ℕ) (places : List Place) (a : AnsweredHop) (step : Lead) (steps : List Lead) (to : Spot) →
      Successor p places a.hop → step.taken ≡ a.hop.taken →
      step.to ≡ spot_at thread (jumps_after jumps a.hop) a.hop.to a.answer → CanAnswer p a →
      IsFollowed p limit thread (jumps_after jumps a.hop) a.hop.to steps to →
      IsFollowed p limit thread jumps places (step ∷ steps) to
  one_more jumps places a step steps to successor taken leads can rest =
      let more : backward_jumps (a.hop ∷ hops_of rest.route) ≡ cond a.hop.backward 1 0 + backward_jumps
      (hops_of rest.route) = one_more_jump a.hop (hops_of rest.route) in
      let sum : jumps_after jumps a.hop + backward_jumps (hops_of rest.route) ≡ jumps + backward_jumps
      (a.hop ∷ hops_of rest.route) = omega arith in
      record {
        route = a ∷ rest.route;
        last = rest.last;
        answer = rest.answer;
        leads = (successor, rest.leads);
        few = subst (λ (n : ℕ). n ≤ limit) sum rest.few;
        answers = all_cons (CanAnswer p) a rest.route can rest.answers;
        are = λ i. record { taken = taken i; to = leads i } ∷ rest.are i;
        is = rest.is ∙ ap (λ (n : ℕ). spot_at thread n rest.last rest.answer) sum;
      }

  pub followed : (steps : List Lead) (jumps : ℕ) (places : List Place) (answer : Bool) (to : Spot) → jumps ≤ limit →
      IsTrail p limit (spot_at thread jumps places answer) steps to →
      IsFollowed p limit thread jumps places steps to
  followed [] jumps places answer to few e = no_more jumps places answer to few e
  followed (step ∷ steps) jumps places answer to few trail =
      let first = goes p limit thread jumps places answer step.taken step.to trail.0 in
      let rest = followed steps (jumps_after jumps first.by.hop) first.by.hop.to first.by.answer to first.few
      (subst (λ (s : Spot). IsTrail p limit s steps to) first.is trail.1) in
      one_more jumps places first.by step steps to first.successor first.taken_is first.is first.can rest

  -- ---- From routes to steps

  pub trailed : (route : List AnsweredHop) (jumps : ℕ) (places last : List Place) (answer : Bool) →
      jumps + backward_jumps (hops_of route) ≤ limit → IsRoute p places (hops_of route) last →
      All (CanAnswer p) route →
      (to : Bool) × IsTrail p limit (spot_at thread jumps places answer) (steps_of thread jumps route)
      (spot_at thread (jumps + backward_jumps (hops_of route)) last to)
  trailed [] jumps places last answer few leads answers =
      (answer, (λ i. spot_at thread ((let f : jumps ≡ jumps + 0 = omega arith in f) i) (leads i) answer))
  trailed (a ∷ route) jumps places last answer few leads answers =
      let more : backward_jumps (a.hop ∷ hops_of route) ≡ cond a.hop.backward 1 0 + backward_jumps (hops_of route) =
      one_more_jump a.hop (hops_of route) in
      let sum : jumps_after jumps a.hop + backward_jumps (hops_of route) ≡ jumps + backward_jumps
      (a.hop ∷ hops_of route) = omega arith in
      let still : jumps_after jumps a.hop ≤ limit = omega arith in
      let rest = trailed route (jumps_after jumps a.hop) a.hop.to last a.answer (omega arith) leads.1
      (all_tail (CanAnswer p) a route answers) in (
        rest.0,
        (
          going p limit thread jumps places answer a leads.0 still (all_head (CanAnswer p) a route answers),
          subst (λ (n : ℕ). IsTrail p limit (spot_at thread (jumps_after jumps a.hop) a.hop.to a.answer)
              (steps_of thread (jumps_after jumps a.hop) route) (spot_at thread n last rest.0)) sum rest.1,
        ),
      )

-- ---- From the beginning to the end

at_end : (thread jumps : ℕ) (last : List Place) (answer : Bool) → end_of thread ≡ spot_at thread jumps last answer →
    last ≡ []
at_end thread jumps [] answer e = refl
at_end thread jumps (x ∷ xs) answer e = (let f = ap (λ (s : Spot). s.position) e in absurd cc)

module _ (p : Prog) (limit thread : ℕ) where
  pub route_of : (steps : List Lead) → IsTrail p limit (begin_of thread) steps (end_of thread) →
      (route : List AnsweredHop) × IsAnsweredRoute p limit thread route × (steps ≡ steps_of thread 0 route)
  route_of [] e = (let f = ap (λ (s : Spot). s.position) e in absurd cc)
  route_of (step ∷ steps) trail =
      let first = enters p limit thread step.taken step.to trail.0 in
      let rest = followed p limit thread steps 0 first.start first.at.answer (end_of thread) (omega arith)
      (subst (λ (s : Spot). IsTrail p limit s steps (end_of thread)) first.at.is trail.1) in
      let none = at_end thread (0 + backward_jumps (hops_of rest.route)) rest.last rest.answer rest.is in
      let entry : AnsweredHop = record { hop = straight_hop first.start; answer = first.at.answer } in (
        entry ∷ rest.route,
        record {
          start = first.start;
          begins = first.begins;
          answer = first.at.answer;
          rest = rest.route;
          are = refl;
          leads = subst (λ (t : List Place). IsRoute p first.start (hops_of rest.route) t) none rest.leads;
          few = (let few = rest.few in omega arith);
          answers = all_cons (CanAnswer p) entry rest.route first.at.can rest.answers;
        },
        λ i. record { taken = first.taken_is i; to = first.at.is i } ∷ rest.are i,
      )

  pub steps_along : (route : List AnsweredHop) → IsAnsweredRoute p limit thread route →
      IsTrail p limit (begin_of thread) (steps_of thread 0 route) (end_of thread)
  steps_along route is =
      let entry : AnsweredHop = record { hop = straight_hop is.start; answer = is.answer } in
      let answers : All (CanAnswer p) (entry ∷ is.rest) =
      subst (λ (r : List AnsweredHop). All (CanAnswer p) r) is.are is.answers in
      let few : 0 + backward_jumps (hops_of is.rest) ≤ limit = (let f = is.few in omega arith) in
      let rest = trailed p limit thread is.rest 0 is.start [] is.answer few is.leads
      (all_tail (CanAnswer p) entry is.rest answers) in
      subst (λ (r : List AnsweredHop). IsTrail p limit (begin_of thread) (steps_of thread 0 r) (end_of thread))
      (sym is.are)
      (entering p limit thread is.start is.answer is.begins (all_head (CanAnswer p) entry is.rest answers), rest.1)
