-- The numbers that a map has something for.
use Rattle.std.proofs.Common.{◌≡◌, ◌<◌, ◌+◌, ℕ, List, [], ◌∷◌, Bool, true, false, Some, nat_eq, take, length, get_or, cond, ◌||◌, ◌≢◌, IsTrue, zero, suc, arith, refl, sym, ap, ◌∙◌, subst, ◌⊎◌, inl, inr}
use Rattle.std.proofs.lemmas.Bool.{eqb-true, eq-eqb, cases_eq}
use Rattle.std.proofs.lemmas.List.Folds.{list_any_more}
use Rattle.std.specs.BTreeMap.{BTreeMap, get, keys}
use Rattle.std.specs.Cmp.{unsigned_tied}
use Rattle.std.specs.List.{list_any}
use Rattle.std.specs.Map.{keys_of, lookup}
use Rattle.std.specs.Option.{is_some}
use Rattle.std.specs.Ordering.{nat_cmp, eq_by_cmp}

tell : {X : Type 0} (q : ℕ) (es : List (ℕ × X)) → list_any (nat_eq q) (keys_of es) ≡ is_some (lookup (eq_by_cmp nat_cmp q) es)
tell q [] = refl
tell {X} q (e ∷ es) =
    let P : Bool → Type 0 = λ b. (nat_eq q e.0 || list_any (nat_eq q) (keys_of es)) ≡ is_some (cond b (Some e.1) (lookup (eq_by_cmp nat_cmp q) es)) in
    let Q : Bool → Type 0 = λ b. (b || list_any (nat_eq q) (keys_of es)) ≡ is_some (cond b (Some e.1) (lookup (eq_by_cmp nat_cmp q) es)) in
    let both : (b : Bool) → Q b = λ b. elim b as Q [ true ↦ refl | false ↦ tell q es ] in
    subst P (sym (unsigned_tied q e.0)) (both (nat_eq q e.0))

-- exactly the keys have something
pub keys_tell : {X : Type 0} (m : BTreeMap ℕ X) (q : ℕ) → list_any (nat_eq q) (keys m) ≡ is_some (get nat_cmp m q)
keys_tell m q = tell q m.entries

true-false : true ≡ false → ⊥
true-false e = cc

or_cases : (a b : Bool) → (a || b) ≡ true → (a ≡ true) ⊎ (b ≡ true)
or_cases true b e = inl refl
or_cases false b e = inr e

or_true : (a b : Bool) → b ≡ true → (a || b) ≡ true
or_true true b e = refl
or_true false b e = e

or_none : (a b : Bool) → (a || b) ≡ false → (a ≡ false) × (b ≡ false)
or_none true b e = cc
or_none false b e = (refl, e)

-- a number of one more element of a list stands before it, or is it
pub listed_more : (q : ℕ) (xs : List ℕ) (i : ℕ) → i < length xs → list_any (nat_eq q) (take (i + 1) xs) ≡ true →
    (list_any (nat_eq q) (take i xs) ≡ true) ⊎ (q ≡ get_or xs i 0)
listed_more q xs i lt e =
    elim (or_cases _ _ (sym (list_any_more (nat_eq q) xs i 0 lt) ∙ e)) [ inl old ↦ inl old | inr new ↦ inr (eqb-true _ _ new) ]

pub unlisted_more : (q : ℕ) (xs : List ℕ) (i : ℕ) → i < length xs → list_any (nat_eq q) (take (i + 1) xs) ≡ false →
    (list_any (nat_eq q) (take i xs) ≡ false) × (q ≢ get_or xs i 0)
unlisted_more q xs i lt e =
    let both = or_none _ _ (sym (list_any_more (nat_eq q) xs i 0 lt) ∙ e) in
    (both.0, λ same. true-false (sym (eq-eqb _ _ same) ∙ both.1))

pub either : (b : Bool) → (b ≡ true) ⊎ (b ≡ false)
either true = inl refl
either false = inr refl

-- what a loop over numbers did at those so far, where it does it at one more and leaves the others alone
pub one_more : {X : Type 0} (P : ℕ → X → Type 0) (base old new : ℕ → X) (xs : List ℕ) (i : ℕ) → i < length xs →
    P (get_or xs i 0) (new (get_or xs i 0)) → ((q : ℕ) → q ≢ get_or xs i 0 → new q ≡ old q) →
    ((q : ℕ) → list_any (nat_eq q) (take i xs) ≡ true → P q (old q)) →
    ((q : ℕ) → list_any (nat_eq q) (take i xs) ≡ false → old q ≡ base q) →
    ((q : ℕ) → list_any (nat_eq q) (take (i + 1) xs) ≡ true → P q (new q)) × ((q : ℕ) → list_any (nat_eq q) (take (i + 1) xs) ≡ false → new q ≡ base q)
one_more {X} P base old new xs i lt here apart done rest = (
  (λ q h. let x = get_or xs i 0 in
      let at_x : q ≡ x → P q (new q) = λ e. let Q : ℕ → Type 0 = λ n. P n (new n) in subst Q (sym e) here in
      elim (cases_eq q x) [
        | inl e ↦ at_x e
        | inr ne ↦ elim (listed_more q xs i lt h) [ inl before ↦ subst (P q) (sym (apart q ne)) (done q before) | inr e ↦ absurd (ne e) ]
      ]),
  (λ q h. let un = unlisted_more q xs i lt h in apart q un.1 ∙ rest q un.0),
)

-- an element of a list is in it
pub listed_there : (xs : List ℕ) (i : ℕ) → i < length xs → list_any (nat_eq (get_or xs i 0)) xs ≡ true
listed_there [] i lt = absurd (omega arith)
listed_there (x ∷ xs) zero lt = ap (λ b. b || list_any (nat_eq x) xs) (eq-eqb x x refl)
listed_there (x ∷ xs) (suc i) lt = or_true (nat_eq (get_or xs i 0) x) _ (listed_there xs i (omega arith))

pub false-true : IsTrue false → ⊥
false-true e = cc
