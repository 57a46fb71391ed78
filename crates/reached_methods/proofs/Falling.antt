-- Where no call makes the rank greater, a call of a method of lower rank does not lead back.
use Rattle.std.proofs.Common.{◌≡◌, ◌<◌, ◌≤◌, ◌+◌, inl, inr, ℕ, List, Some, Contains, get_or, sym, ap, subst, ◌∙◌, arith, slice_get}
use Rattle.std.specs.Prelude.{◌↔◌}
use Rattle.std.proofs.lemmas.Bool.{cases_lt}
use Rattle.std.proofs.lemmas.Option.{slice_get_within, get_or_from_slice_get}
use Rattle.relations.specs.Path.{Walk, here, on}
use Rattle.program.proofs.Lists.{all_of, contains_at, place_of, slice_get_mapped}
use Rattle.program.specs.declared.method.MethodId.{MethodId}
use Rattle.resolution.specs.declared.target.Target.TheVariants as target
use Rattle.reached_methods.specs.Cycles.{CallsIn, HasReturn, StandsIn}
use Rattle.reached_methods.specs.Exploring.{AreByPlace}
use Rattle.reached_methods.specs.FirstFault.{HasNone}
use Rattle.reached_methods.specs.Ranks.{AllFallBy, FallsBy, NoneRises, rank_at}
use Rattle.reached_methods.specs.Reached.{IsBefore}
use Rattle.reached_methods.specs.Reaching.{IsSurveyedAt}
use Rattle.reached_methods.specs.declared.method.ReachedMethod.{ReachedMethod}
use Rattle.reached_methods.specs.declared.survey.Surveyed.{Surveyed}
use Rattle.reached_methods.proofs.Searches.{id_at}

not_before_itself : (id : MethodId) → IsBefore id id → ⊥
not_before_itself id (inl lt) = omega (arith, lt)
not_before_itself id (inr h) = omega (arith, h.1)

-- a method has no second place behind its first
no_later : (surveys : List Surveyed) (i j : ℕ) (id : MethodId) → AreByPlace surveys → StandsIn surveys i id → StandsIn surveys j id → i < j → ⊥
no_later surveys i j id by_place at_i at_j lt =
    let s = slice_get_mapped (λ (x : Surveyed). x.method.id) surveys i id at_i in
    let t = slice_get_mapped (λ (x : Surveyed). x.method.id) surveys j id at_j in
    let before = by_place i j s.0 lt (slice_get_within surveys j t.0 t.1) in
    let first : (get_or surveys i s.0).method.id ≡ id = ap (λ (x : Surveyed). x.method.id) (get_or_from_slice_get surveys i s.0 s.0 s.1) ∙ s.2 in
    let second : (get_or surveys j s.0).method.id ≡ id = ap (λ (x : Surveyed). x.method.id) (get_or_from_slice_get surveys j t.0 s.0 t.1) ∙ t.2 in
    not_before_itself id (subst (λ (x : MethodId). IsBefore x id) first (subst (IsBefore (get_or surveys i s.0).method.id) second before))

one_place : (surveys : List Surveyed) (i j : ℕ) (id : MethodId) → AreByPlace surveys → StandsIn surveys i id → StandsIn surveys j id → i ≡ j
one_place surveys i j id by_place at_i at_j = elim (cases_lt i j) [
  | inl lt ↦ absurd (no_later surveys i j id by_place at_i at_j lt)
  | inr le ↦ elim (cases_lt j i) [
    | inl gt ↦ absurd (no_later surveys j i id by_place at_j at_i gt)
    | inr ge ↦ omega (arith, le, ge)
  ]
]

-- what holds of the instructions of a method holds of its calls
call_falls : (surveys : List Surveyed) (ranks : List ℕ) (drop : ℕ) (caller called : MethodId) (at : ℕ) → AreByPlace surveys → StandsIn surveys at caller → AllFallBy surveys ranks drop at →
    CallsIn surveys caller called → FallsBy surveys ranks at drop (target.Call called)
call_falls surveys ranks drop caller called at by_place there falls call =
    let found = place_of surveys call.surveyed call.there in
    let id_there = id_at surveys found.0 call.surveyed found.1 ∙ ap Some call.caller_is in
    let P : ℕ → Type 0 = λ n. slice_get surveys n ≡ Some call.surveyed in
    all_of (FallsBy surveys ranks at drop) call.surveyed.method.targets (target.Call called)
    (falls call.surveyed (subst P (one_place surveys found.0 at caller by_place id_there there) found.1)) call.call

-- calls lead to no greater rank
walk_falls : (surveys : List Surveyed) (ranks : List ℕ) (a b : MethodId) (at to : ℕ) → AreByPlace surveys → NoneRises surveys ranks → StandsIn surveys at a → StandsIn surveys to b →
    Walk (CallsIn surveys) a b → rank_at ranks to ≤ rank_at ranks at
walk_falls surveys ranks a b at to by_place none at_a at_b here =
    let same : at ≡ to = one_place surveys at to a by_place at_a at_b in
    omega (arith, ap (rank_at ranks) same)
walk_falls surveys ranks a b at to by_place none at_a at_b (on {b = m} call walk) =
    let down = call_falls surveys ranks 0 a m at by_place at_a (none at) call in
    omega (arith, down.2, walk_falls surveys ranks m b down.0 to by_place none down.1 at_b walk)

-- a method that calls methods of lower rank alone has no call that leads back
pub no_return : (surveys : List Surveyed) (ranks : List ℕ) (at : ℕ) (m : ReachedMethod) → AreByPlace surveys → NoneRises surveys ranks → AllFallBy surveys ranks 1 at →
    IsSurveyedAt surveys at m → HasNone (HasReturn surveys m)
no_return surveys ranks at m by_place none falls is = record {
  none = λ pc kind detail back.
      let here_is : StandsIn surveys at m.id = id_at surveys at is.surveyed is.there ∙ ap (λ (x : ReachedMethod). Some x.id) is.method_is in
      let call : CallsIn surveys m.id back.called = record {
        surveyed = is.surveyed;
        there = contains_at surveys at is.surveyed is.there;
        caller_is = ap (λ (x : ReachedMethod). x.id) is.method_is;
        call = subst (λ (x : ReachedMethod). Contains x.targets (target.Call back.called)) (sym is.method_is) (contains_at m.targets back.at (target.Call back.called) back.named);
      } in
      let down = call_falls surveys ranks 1 m.id back.called at by_place here_is falls call in
      omega (arith, down.2, walk_falls surveys ranks back.called m.id down.0 at by_place none down.1 here_is back.leads_back);
}

-- a call falls where the rank at the place of the called method is lower
pub call_at : (surveys : List Surveyed) (ranks : List ℕ) (at drop to : ℕ) (called : MethodId) → AreByPlace surveys → StandsIn surveys to called →
    FallsBy surveys ranks at drop (target.Call called) ↔ (rank_at ranks to + drop ≤ rank_at ranks at)
call_at surveys ranks at drop to called by_place there = (
  λ falls. subst (λ (n : ℕ). rank_at ranks n + drop ≤ rank_at ranks at) (one_place surveys falls.0 to called by_place falls.1 there) falls.2,
  λ low. (to, there, low),
)
