-- Marked spots.
use Rattle.std.proofs.Common.{zero, suc, take, get_or, slice_get, slice_set, ◌≡◌, ◌↔◌, ◌⊎◌, ◌+◌, ◌<◌, ◌≤◌, inl, inr, ℕ, Bool, true, List, [], ◌∷◌, ◌++◌, Contains, IfNone, IfSome, IsTrue, Option, None, Some, length, refl, sym, ap, subst, ◌∙◌}
use native.Mathlib.Omega.{arith}
use Rattle.std.proofs.Math.Nat.{eq-or-lt_of_le}
use Rattle.std.proofs.Math.Seq.{take-suc}
use Rattle.std.proofs.lemmas.List.Elements.{Contains-append_cases}
use Rattle.std.specs.List.Sorted.{IsStrictlySortedBy}
use Rattle.program.proofs.Lists.{contains_at, contains_one, place_of}
use Rattle.program.specs.Program.{Prog}
use Rattle.relations.specs.Path.{Walk, here, on}
use Rattle.graph_shape.proofs.Order.{once, sorted_at}
use Rattle.graph_shape.proofs.Up.{steps_up}
use Rattle.spots.specs.Order.{spot_cmp}
use Rattle.spots.specs.Spots.{Lands, Leads, StepsTo, begins, end_of, ends, stands, steps}
use Rattle.spots.specs.declared.spot.Spot.{Spot}
use Rattle.kept_spots.specs.Ending.{AreClosed, CanEnd, IsAtEnd, IsMarked, SomeMarked}

module _ (spots : List Spot) (marks : List Bool) (to : Spot) where
  pub marked_there : (o : Option ℕ) → IfSome o (λ place. slice_get spots place ≡ Some to) → IsMarked marks o → (n : ℕ) × (slice_get spots n ≡ Some to) × (slice_get marks n ≡ Some true)
  marked_there None is marked = (let e = marked.1 in absurd cc)
  marked_there (Some m) is marked =
      let e : Some m ≡ Some marked.0 = marked.1 in
      let same : m ≡ marked.0 = cc in
      (m, is, ap (slice_get marks) same ∙ marked.2)

  pub unmarked_there : IsStrictlySortedBy spot_cmp spots → (o : Option ℕ) → IfSome o (λ place. slice_get spots place ≡ Some to) → IfNone o (Contains spots to → ⊥) → (IsMarked marks o → ⊥) →
      (n : ℕ) → slice_get spots n ≡ Some to → slice_get marks n ≡ Some true → ⊥
  unmarked_there sorted None is none unmarked n at mark = none (contains_at spots n to at)
  unmarked_there sorted (Some m) is none unmarked n at mark = unmarked (m, refl, ap (slice_get marks) (once spots to sorted m n is at) ∙ mark)

-- ---- Ends

module _ (p : Prog) (limit : ℕ) where
  landed : (thread jumps : ℕ) (to : Spot) {places : _} → Lands p thread jumps places to → to.thread ≡ thread
  landed thread jumps to (ends e is) = ap (λ (s : Spot). s.thread) is
  landed thread jumps to (stands stand at callers e is counted chain answer) = ap (λ (s : Spot). s.thread) is

  same_thread : (a b : Spot) → StepsTo p limit a b → b.thread ≡ a.thread
  same_thread a b step = go step.1
    where
      go : {taken : Bool} → Leads p limit a taken b → b.thread ≡ a.thread
      go (begins places position start t lands) = landed a.thread 0 b lands
      go (steps stand hop position successor t few lands) = landed a.thread _ b lands

  at_end : (s : Spot) → IsAtEnd s → CanEnd p limit s
  at_end s e = subst (λ (t : Spot). Walk (StepsTo p limit) s t) (λ i. record { thread = s.thread; position = e i }) here

  module _ (spots : List Spot) (marks : List Bool) (at : ℕ) (spot : Spot) (sorted : IsStrictlySortedBy spot_cmp spots) (closed : AreClosed p limit spots) (is : slice_get spots at ≡ Some spot)
      (later : (place : ℕ) (s : Spot) → at + 1 ≤ place → slice_get spots place ≡ Some s → (slice_get marks place ≡ Some true) ↔ CanEnd p limit s) where
    above : (place : ℕ) (to : Spot) → StepsTo p limit spot to → slice_get spots place ≡ Some to → at + 1 ≤ place
    above place to step there = (let more = sorted_at spots sorted at place spot to is there (steps_up p limit spot to step.0 step.1) in omega arith)

    pub ending_is : CanEnd p limit spot ↔ (IsAtEnd spot ⊎ SomeMarked p limit spots marks spot)
    ending_is = ((λ walk. first (end_of spot.thread) walk refl), back)
      where
        first : (end : Spot) → Walk (StepsTo p limit) spot end → end ≡ end_of spot.thread → IsAtEnd spot ⊎ SomeMarked p limit spots marks spot
        first end here e = inl (ap (λ (s : Spot). s.position) e)
        first end (on {b = to} step rest) e =
            let there = place_of spots to (closed spot to (contains_at spots at spot is) step) in
            let finish : Walk (StepsTo p limit) to (end_of to.thread) = subst (λ (s : Spot). Walk (StepsTo p limit) to s) (e ∙ ap end_of (sym (same_thread spot to step))) rest in
            inr (record { to = to; place = there.0; step = step; stands = there.1; marked = (later there.0 to (above there.0 to step there.1) there.1).1 finish })

        back : IsAtEnd spot ⊎ SomeMarked p limit spots marks spot → CanEnd p limit spot
        back (inl e) = at_end spot e
        back (inr some) =
            let rest = (later some.place some.to (above some.place some.to some.step some.stands) some.stands).0 some.marked in
            on some.step (subst (λ (n : ℕ). Walk (StepsTo p limit) some.to (end_of n)) (same_thread spot some.to some.step) rest)

-- ---- One more mark

set_here : {X : Type 0} (xs : List X) (i : ℕ) (x : X) → i < length xs → slice_get (slice_set xs i x) i ≡ Some x
set_here [] i x within = absurd (omega arith)
set_here (y ∷ ys) zero x within = refl
set_here (y ∷ ys) (suc i) x within = set_here ys i x (omega arith)

set_behind : {X : Type 0} (xs : List X) (i j : ℕ) (x : X) → i < j → slice_get (slice_set xs i x) j ≡ slice_get xs j
set_behind [] i j x before = refl
set_behind (y ∷ ys) zero zero x before = absurd (omega arith)
set_behind (y ∷ ys) zero (suc j) x before = refl
set_behind (y ∷ ys) (suc i) zero x before = absurd (omega arith)
set_behind (y ∷ ys) (suc i) (suc j) x before = set_behind ys i j x (omega arith)

pub one_more : (p : Prog) (limit : ℕ) (spots : List Spot) (marks : List Bool) (at : ℕ) (mark : Bool) (spot : Spot) → IsStrictlySortedBy spot_cmp spots → AreClosed p limit spots → at < length marks → slice_get spots at ≡ Some spot →
    (IsTrue mark ↔ (IsAtEnd spot ⊎ SomeMarked p limit spots marks spot)) → ((place : ℕ) (s : Spot) → at + 1 ≤ place → slice_get spots place ≡ Some s → (slice_get marks place ≡ Some true) ↔ CanEnd p limit s) →
    (place : ℕ) (s : Spot) → at ≤ place → slice_get spots place ≡ Some s → (slice_get (slice_set marks at mark) place ≡ Some true) ↔ CanEnd p limit s
one_more p limit spots marks at mark spot sorted closed within is exact later place s least there = by (eq-or-lt_of_le least)
  where
    ending : CanEnd p limit spot ↔ (IsAtEnd spot ⊎ SomeMarked p limit spots marks spot)
    ending = ending_is p limit spots marks at spot sorted closed is later

    marked_is : (slice_get (slice_set marks at mark) at ≡ Some true) ↔ CanEnd p limit spot
    marked_is = (
      (λ e. (let one : Some mark ≡ Some true = sym (set_here marks at mark within) ∙ e in let yes : mark ≡ true = cc in ending.1 (exact.0 yes))),
      (λ walk. set_here marks at mark within ∙ ap Some (exact.1 (ending.0 walk))),
    )

    by : (at ≡ place) ⊎ (at < place) → (slice_get (slice_set marks at mark) place ≡ Some true) ↔ CanEnd p limit s
    by (inr before) = subst (λ (o : Option Bool). (o ≡ Some true) ↔ CanEnd p limit s) (sym (set_behind marks at place mark before)) (later place s (omega arith) there)
    by (inl same) =
        let one : Some spot ≡ Some s = sym is ∙ ap (slice_get spots) same ∙ there in
        let here_is : spot ≡ s = cc in
        subst (λ (n : ℕ). (slice_get (slice_set marks at mark) n ≡ Some true) ↔ CanEnd p limit s) same
        (subst (λ (t : Spot). (slice_get (slice_set marks at mark) at ≡ Some true) ↔ CanEnd p limit t) here_is marked_is)
