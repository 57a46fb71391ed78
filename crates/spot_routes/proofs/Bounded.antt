-- Where threads can end, and where no step is left out.
use Rattle.std.proofs.Common.{◌≡◌, ◌≤◌, ◌<◌, ◌+◌, inl, inr, ◌↔◌, ℕ, Bool, true, false, cond, List, [], ◌∷◌, ◌++◌, All, map, refl, sym, ap, subst, ◌∙◌, true≢false}
use native.Mathlib.Omega.{arith}
use Rattle.std.proofs.lemmas.Bool.{cases_lt}
use Rattle.std.proofs.lemmas.List.Sums.{sum_by-append}
use Rattle.std.proofs.lemmas.Option.{slice_get_within}
use Rattle.relations.proofs.Paths.{walked}
use Rattle.relations.specs.Path.{Walk, here, on}
use Rattle.program.proofs.Lists.{all_cons}
use Rattle.program.specs.Bounds.{Begins, Ends, Hop, IsRoute, IsWhole, Place, Successor, backward_jumps}
use Rattle.program.specs.Program.{Prog}
use Rattle.code_paths.proofs.Exact.{ended}
use Rattle.spots.specs.Spots.{AsksAt, IsReached, LeavesOut, StepsTo, begin_of, end_of, innermost_first, jumps_after}
use Rattle.spots.specs.declared.leads.Lead.{Lead}
use Rattle.spots.specs.declared.spot.Position.TheVariants.{At}
use Rattle.spots.specs.declared.spot.Spot.{Spot}
use Rattle.spots.specs.declared.spot.Standing.{Standing}
use Rattle.reached_spots.specs.Exploring.{SomeLeavesOut}
use Rattle.spot_routes.specs.Routes.{AnsweredHop, CanAnswer, IsTrail, chain_of, hops_of, spot_at, steps_of}
use Rattle.spot_routes.proofs.Stepping.{chain_back, entering, enters, going}
use Rattle.spot_routes.proofs.Following.{followed, one_more_jump, route_of, trail_of, trailed, walk_of}

-- ---- Routes on which nothing is answered but false

abbrev silent : Hop → AnsweredHop
silent hop = record { hop = hop; answer = false }

same_hops : (hops : List Hop) → hops_of (map silent hops) ≡ hops
same_hops [] = refl
same_hops (hop ∷ hops) = ap (λ (hs : List Hop). hop ∷ hs) (same_hops hops)

never : (P : Type 0) → false ≡ true → P
never P e = absurd (true≢false (sym e))

can_be_silent : (p : Prog) (hops : List Hop) → All (CanAnswer p) (map silent hops)
can_be_silent p [] = λ k d within. absurd (omega arith)
can_be_silent p (hop ∷ hops) =
    all_cons (CanAnswer p) (silent hop) (map silent hops) (never (AsksAt p hop.to)) (can_be_silent p hops)

-- ---- Ends

pub ends_by_steps : (p : Prog) (limit thread : ℕ) → Ends p thread limit ↔
    Walk (StepsTo p limit) (begin_of thread) (end_of thread)
ends_by_steps p limit thread = (to, back)
  where
    to : Ends p thread limit → Walk (StepsTo p limit) (begin_of thread) (end_of thread)
    to ends =
        let same = same_hops ends.hops in
        let few : 0 + backward_jumps (hops_of (map silent ends.hops)) ≤ limit =
        (let f = ends.few in subst (λ (hs : List Hop). 0 + backward_jumps hs ≤ limit) (sym same) (omega arith)) in
        let trail = trailed p limit thread (map silent ends.hops) 0 ends.start [] false few
        (subst (λ (hs : List Hop). IsRoute p ends.start hs []) (sym same) ends.route) (can_be_silent p ends.hops)
        in
        on (false, entering p limit thread ends.start false ends.begins (never (AsksAt p ends.start)))
        (walk_of p limit (steps_of thread 0 (map silent ends.hops)) (spot_at thread 0 ends.start false)
        (end_of thread) trail.1)

    back : Walk (StepsTo p limit) (begin_of thread) (end_of thread) → Ends p thread limit
    back walk =
        let trail = trail_of p limit (begin_of thread) (end_of thread) walk in
        let route = route_of p limit thread trail.0 trail.1 in
        let is = route.1 in
        record { start = is.start; begins = is.begins; hops = hops_of is.rest; few = is.few; route = is.leads }

-- ---- Steps that are left out

-- one more step at the end of a route
route_on : (p : Prog) (s t : List Place) (hops : List Hop) (hop : Hop) → IsRoute p s hops t → Successor p t hop →
    IsRoute p s (hops ++ hop ∷ []) hop.to
route_on p s t [] hop e step = (subst (λ (x : List Place). Successor p x hop) (sym e) step, refl)
route_on p s t (first ∷ hops) hop route step = (route.0, route_on p first.to t hops hop route.1 step)

counted_on : (hops : List Hop) (hop : Hop) →
    backward_jumps (hops ++ hop ∷ []) ≡ backward_jumps hops + cond hop.backward 1 0
counted_on hops hop =
    sum_by-append (λ (h : Hop). cond h.backward 1 0) hops (hop ∷ []) ∙
    ap (λ (n : ℕ). backward_jumps hops + n) (one_more_jump hop [] ∙
    (let e : cond hop.backward 1 0 + 0 ≡ cond hop.backward 1 0 = omega arith in e))

module _ (p : Prog) (limit thread : ℕ) where
  leaves : (jumps : ℕ) (places : List Place) (hop : Hop) → Successor p places hop → limit < jumps_after jumps hop →
      LeavesOut p limit (spot_at thread jumps places false)
  leaves jumps [] hop step more = absurd (ended p [] hop refl step)
  leaves jumps (x ∷ xs) hop step more = record {
    stand = record { jumps = jumps; places = chain_of (x ∷ xs); answer = false };
    hop = hop;
    position = refl;
    successor = subst (λ (s : List Place). Successor p s hop) (sym (chain_back (x ∷ xs))) step;
    many = more;
  }

  reached_after : (jumps : ℕ) (places : List Place) (hop : Hop) → Successor p places hop →
      jumps_after jumps hop ≤ limit → IsReached p limit (spot_at thread jumps places false) →
      IsReached p limit (spot_at thread (jumps_after jumps hop) hop.to false)
  reached_after jumps places hop step few reached = record {
    thread = reached.thread;
    is_thread = reached.is_thread;
    walk = walked (StepsTo p limit) (begin_of reached.thread) (spot_at thread jumps places false)
        (spot_at thread (jumps_after jumps hop) hop.to false) reached.walk
        (hop.taken, going p limit thread jumps places false (silent hop) step few (never (AsksAt p hop.to)));
  }

  -- a route with too many backward jumps has a first step that is one too many
  left_out : (hops : List Hop) (jumps : ℕ) (places last : List Place) → jumps ≤ limit → IsRoute p places hops last →
      limit < jumps + backward_jumps hops →
      IsReached p limit (spot_at thread jumps places false) → SomeLeavesOut p limit
  left_out [] jumps places last few route many reached = absurd (omega arith)
  left_out (hop ∷ hops) jumps places last few route many reached =
      let sum : backward_jumps (hop ∷ hops) ≡ cond hop.backward 1 0 + backward_jumps hops = one_more_jump hop hops in
      let over : limit < jumps_after jumps hop + backward_jumps hops = omega arith in
      elim (cases_lt limit (jumps_after jumps hop)) [
        | inl more ↦ record {
          spot = spot_at thread jumps places false;
          is_reached = reached;
          leaves_out =
              leaves jumps places hop route.0 more;
        }
        | inr still ↦ left_out hops (jumps_after jumps hop) hop.to last still route.1 over
            (reached_after jumps places hop route.0 still reached)
      ]

  -- the step that is left out goes on from where the thread stands
  goes_on : (jumps : ℕ) (last : List Place) (answer : Bool) (spot : Spot) → spot ≡ spot_at thread jumps last answer →
      LeavesOut p limit spot →
      (hop : Hop) × Successor p last hop × (limit < jumps_after jumps hop)
  goes_on jumps [] answer spot e out = (let f = sym (ap (λ (s : Spot). s.position) e) ∙ out.position in absurd cc)
  goes_on jumps (x ∷ xs) answer spot e out =
      let here : Standing = record { jumps = jumps; places = chain_of (x ∷ xs); answer = answer } in
      let f : At here ≡ At out.stand = sym (ap (λ (s : Spot). s.position) e) ∙ out.position in
      let same : here ≡ out.stand = cc in (
        out.hop,
        subst (λ (s : List Place). Successor p s out.hop)
            (ap (λ (s : Standing). innermost_first s.places) (sym same) ∙ chain_back (x ∷ xs)) out.successor,
        subst (λ (n : ℕ). limit < n) (ap (λ (s : Standing). jumps_after s.jumps out.hop) (sym same)) out.many,
      )

  too_many : (steps : List Lead) (spot : Spot) → IsTrail p limit (begin_of thread) steps spot →
      LeavesOut p limit spot →
      (s : List Place) × (t : List Place) × (hops : List Hop) × Begins p thread s × IsRoute p s hops t ×
      (limit < backward_jumps hops)
  too_many [] spot e out = (let f = ap (λ (s : Spot). s.position) e ∙ out.position in absurd cc)
  too_many (step ∷ steps) spot trail out =
      let first = enters p limit thread step.taken step.to trail.0 in
      let rest = followed p limit thread steps 0 first.start first.at.answer spot (omega arith)
      (subst (λ (s : Spot). IsTrail p limit s steps spot) first.at.is trail.1) in
      let hops = hops_of rest.route in
      let next = goes_on (0 + backward_jumps hops) rest.last rest.answer spot rest.is out in
      let sum = counted_on hops next.0 in
      let many = next.2 in (
        first.start,
        next.0.to,
        hops ++ next.0 ∷ [],
        first.begins,
        route_on p first.start rest.last hops next.0 rest.leads next.1,
        omega arith,
      )

pub whole_where_none_is_left_out : (p : Prog) (limit width : ℕ) → IsWhole p limit width ↔
    ((width ≡ 32) × (SomeLeavesOut p limit → ⊥))
whole_where_none_is_left_out p limit width = (to, back)
  where
    to : IsWhole p limit width → (width ≡ 32) × (SomeLeavesOut p limit → ⊥)
    to whole = (
      whole.wide,
      (λ some. (let reached = some.is_reached in
          let trail = trail_of p limit (begin_of reached.thread) some.spot reached.walk in
          let many = too_many p limit reached.thread trail.0 some.spot trail.1 some.leaves_out in
          let few = whole.enough reached.thread many.0 many.1 many.2 many.3 many.4 in
          let more = many.5 in
          absurd (omega arith))),
    )

    begun : (k : ℕ) (s : List Place) → Begins p k s → IsReached p limit (spot_at k 0 s false)
    begun k s begins = record {
      thread = k;
      is_thread = slice_get_within p.threads k begins.id begins.is_thread;
      walk = on (false, entering p limit k s false begins (never (AsksAt p s))) here;
    }

    back : (width ≡ 32) × (SomeLeavesOut p limit → ⊥) → IsWhole p limit width
    back facts = record {
      wide = facts.0;
      enough = λ k s t hops begins route. elim (cases_lt limit (backward_jumps hops)) [
        | inl many ↦ absurd (facts.1
            (left_out p limit k hops 0 s t (omega arith) route (omega arith) (begun k s begins)))
        | inr few ↦ few
      ];
    }
