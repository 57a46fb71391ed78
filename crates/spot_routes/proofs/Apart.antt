-- Different routes are different lists of steps.
use Rattle.std.proofs.Common.{◌≡◌, ◌+◌, ◌⊎◌, inl, inr, ℕ, Bool, true, false, cond, List, [], ◌∷◌, All, refl, sym, ap, ◌∙◌, subst}
use native.Mathlib.Omega.{arith}
use Rattle.program.proofs.Lists.{all_head, all_tail}
use Rattle.program.specs.Bounds.{Hop, IsRoute, Place, Successor, calls, ends, falls, jumps, returns, straight_hop}
use Rattle.program.specs.Program.{Prog}
use Rattle.spots.proofs.Landing.{none_asked}
use Rattle.spots.specs.Spots.{AsksAt, innermost_first, jumps_after}
use Rattle.spots.specs.declared.leads.Lead.{Lead}
use Rattle.spots.specs.declared.spot.Position.TheVariants.{At}
use Rattle.spots.specs.declared.spot.Spot.{Spot}
use Rattle.spots.specs.declared.spot.Standing.{Standing}
use Rattle.spot_routes.specs.Routes.{AnsweredHop, CanAnswer, IsAnsweredRoute, chain_of, hops_of, spot_at, steps_of}
use Rattle.spot_routes.proofs.Stepping.{chain_back}

-- ---- What a spot tells

record IsTold (n m : ℕ) (xs ys : List Place) (a b : Bool) : Type 0 where
  pub places : xs ≡ ys
  pub others : (xs ≡ []) ⊎ ((n ≡ m) × (a ≡ b))

abbrev standing : ℕ → List Place → Bool → Standing
standing n places answer = record { jumps = n; places = chain_of places; answer = answer }

told : (thread n m : ℕ) (xs ys : List Place) (a b : Bool) → spot_at thread n xs a ≡ spot_at thread m ys b →
    IsTold n m xs ys a b
told thread n m [] [] a b e = record { places = refl; others = inl refl }
told thread n m [] (y ∷ ys) a b e = (let f = ap (λ (s : Spot). s.position) e in absurd cc)
told thread n m (x ∷ xs) [] a b e = (let f = ap (λ (s : Spot). s.position) e in absurd cc)
told thread n m (x ∷ xs) (y ∷ ys) a b e =
    let f : At (standing n (x ∷ xs) a) ≡ At (standing m (y ∷ ys) b) = ap (λ (s : Spot). s.position) e in
    let same : standing n (x ∷ xs) a ≡ standing m (y ∷ ys) b = cc in
    record {
      places = sym (chain_back (x ∷ xs)) ∙ ap (λ (s : Standing). innermost_first s.places) same ∙ chain_back (y ∷ ys);
      others = inr (ap (λ (s : Standing). s.jumps) same, ap (λ (s : Standing). s.answer) same);
    }

-- ---- One step

same_backward : (n : ℕ) (x y : Bool) → n + cond x 1 0 ≡ n + cond y 1 0 → x ≡ y
same_backward n false false e = refl
same_backward n false true e = absurd (omega arith)
same_backward n true false e = absurd (omega arith)
same_backward n true true e = refl

-- the outermost return is no jump
forward : (p : Prog) (s : List Place) (hop : Hop) → Successor p s hop → hop.to ≡ [] → hop.backward ≡ false
forward p s hop (falls at callers instr names e there through none is) last = ap (λ (h : Hop). h.backward) is
forward p s hop (jumps at callers instr names distance to e there jumping place is) last =
    (let f = sym last ∙ ap (λ (h : Hop). h.to) is in absurd cc)
forward p s hop (calls at callers instr called e there is) last = ap (λ (h : Hop). h.backward) is
forward p s hop (returns at caller callers instr call names called e there is_return calling is) last =
    ap (λ (h : Hop). h.backward) is
forward p s hop (ends at instr names e there is_return is) last = ap (λ (h : Hop). h.backward) is

-- nothing answers behind the outermost return
quiet : (p : Prog) (places : List Place) (answer : Bool) → (answer ≡ true → AsksAt p places) → places ≡ [] →
    answer ≡ false
quiet p places false can none = refl
quiet p places true can none = absurd (none_asked p [] refl (subst (AsksAt p) none (can refl)))

one_hop : (p : Prog) (thread n : ℕ) (s t : List Place) (a b : AnsweredHop) → Successor p s a.hop →
    Successor p t b.hop → CanAnswer p a → CanAnswer p b → a.hop.taken ≡ b.hop.taken →
    spot_at thread (jumps_after n a.hop) a.hop.to a.answer ≡ spot_at thread (jumps_after n b.hop) b.hop.to b.answer →
    a ≡ b
one_hop p thread n s t a b first second a_can b_can taken e = by is.others
  where
    is : IsTold (jumps_after n a.hop) (jumps_after n b.hop) a.hop.to b.hop.to a.answer b.answer
    is = told thread (jumps_after n a.hop) (jumps_after n b.hop) a.hop.to b.hop.to a.answer b.answer e

    built : a.hop.backward ≡ b.hop.backward → a.answer ≡ b.answer → a ≡ b
    built backward answer =
        λ i. record { hop = record { taken = taken i; backward = backward i; to = is.places i }; answer = answer i }

    by : (a.hop.to ≡ []) ⊎ ((jumps_after n a.hop ≡ jumps_after n b.hop) × (a.answer ≡ b.answer)) → a ≡ b
    by (inl none) =
        let also : b.hop.to ≡ [] = sym is.places ∙ none in
        built (forward p s a.hop first none ∙
        sym (forward p t b.hop second also)) (quiet p a.hop.to a.answer a_can none ∙
        sym (quiet p b.hop.to b.answer b_can also))
    by (inr same) = built (same_backward n a.hop.backward b.hop.backward same.0) same.1

-- ---- Step by step

module _ (p : Prog) (thread : ℕ) where
  one_route : (one other : List AnsweredHop) (n : ℕ) (s t end last : List Place) → IsRoute p s (hops_of one) end →
      IsRoute p t (hops_of other) last → All (CanAnswer p) one → All (CanAnswer p) other →
      steps_of thread n one ≡ steps_of thread n other → one ≡ other
  one_route [] [] n s t end last first second a_can b_can e = refl
  one_route [] (b ∷ other) n s t end last first second a_can b_can e = absurd cc
  one_route (a ∷ one) [] n s t end last first second a_can b_can e = absurd cc
  one_route (a ∷ one) (b ∷ other) n s t end last first second a_can b_can e =
      let a_step : Lead = record { taken = a.hop.taken; to = spot_at thread (jumps_after n a.hop) a.hop.to a.answer }
      in
      let b_step : Lead = record { taken = b.hop.taken; to = spot_at thread (jumps_after n b.hop) b.hop.to b.answer }
      in
      let head : a_step ≡ b_step = cc in
      let tail : steps_of thread (jumps_after n a.hop) one ≡ steps_of thread (jumps_after n b.hop) other = cc in
      let same : a ≡ b =
      one_hop p thread n s t a b first.0 second.0 (all_head (CanAnswer p) a one a_can)
      (all_head (CanAnswer p) b other b_can) (ap (λ (l : Lead). l.taken) head) (ap (λ (l : Lead). l.to) head) in
      let rest = one_route one other (jumps_after n a.hop) a.hop.to b.hop.to end last first.1 second.1
      (all_tail (CanAnswer p) a one a_can) (all_tail (CanAnswer p) b other b_can)
      (tail ∙ ap (λ (h : AnsweredHop). steps_of thread (jumps_after n h.hop) other) (sym same)) in
      λ i. same i ∷ rest i

-- ---- From the entry on

abbrev entry : List Place → Bool → AnsweredHop
entry start answer = record { hop = straight_hop start; answer = answer }

same_entry : (p : Prog) (thread n : ℕ) (s t : List Place) (a b : Bool) → (a ≡ true → AsksAt p s) →
    (b ≡ true → AsksAt p t) → spot_at thread n s a ≡ spot_at thread n t b → entry s a ≡ entry t b
same_entry p thread n s t a b a_can b_can e = (λ i. entry (is.places i) (by is.others i))
  where
    is : IsTold n n s t a b
    is = told thread n n s t a b e

    by : (s ≡ []) ⊎ ((n ≡ n) × (a ≡ b)) → a ≡ b
    by (inl none) = quiet p s a a_can none ∙ sym (quiet p t b b_can (sym is.places ∙ none))
    by (inr same) = same.1

pub one_answered_route : (p : Prog) (limit thread : ℕ) (one other : List AnsweredHop) →
    IsAnsweredRoute p limit thread one → IsAnsweredRoute p limit thread other →
    steps_of thread 0 one ≡ steps_of thread 0 other → one ≡ other
one_answered_route p limit thread one other first second e =
    let a = entry first.start first.answer in
    let b = entry second.start second.answer in
    let a_can : All (CanAnswer p) (a ∷ first.rest) =
    subst (λ (r : List AnsweredHop). All (CanAnswer p) r) first.are first.answers in
    let b_can : All (CanAnswer p) (b ∷ second.rest) =
    subst (λ (r : List AnsweredHop). All (CanAnswer p) r) second.are second.answers in
    let steps : steps_of thread 0 (a ∷ first.rest) ≡ steps_of thread 0 (b ∷ second.rest) =
    ap (steps_of thread 0) (sym first.are) ∙ e ∙ ap (steps_of thread 0) second.are in
    let a_step : Lead = record { taken = false; to = spot_at thread 0 first.start first.answer } in
    let b_step : Lead = record { taken = false; to = spot_at thread 0 second.start second.answer } in
    let head : a_step ≡ b_step = cc in
    let tail : steps_of thread 0 first.rest ≡ steps_of thread 0 second.rest = cc in
    let same : a ≡ b =
    same_entry p thread 0 first.start second.start first.answer second.answer
    (all_head (CanAnswer p) a first.rest a_can) (all_head (CanAnswer p) b second.rest b_can)
    (ap (λ (l : Lead). l.to) head) in
    let rest = one_route p thread first.rest second.rest 0 first.start second.start [] [] first.leads second.leads
    (all_tail (CanAnswer p) a first.rest a_can)
    (all_tail (CanAnswer p) b second.rest b_can) tail in
    first.are ∙ (λ i. same i ∷ rest i) ∙ sym second.are
