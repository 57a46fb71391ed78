-- Clauses by number, in a list.
use Rattle.std.proofs.Common.{zero, suc, ◌≡◌, ◌++◌, ◌+◌, ◌-◌, ◌<◌, ◌≤◌, ◌∙◌, ◌⊎◌, inl, inr, ℕ, Bool, true, false, cond, nat_eq, eq-eqb, ap, sym, subst, arith, refl, length, set, List, [], ◌∷◌, Option, Some, None, slice_get, add-one, is_some}
use Rattle.std.specs.Prelude.{MatchBool}
use Rattle.std.proofs.lemmas.Bool.{eqb-true}
use Rattle.std.proofs.lemmas.List.{length-append}
use Rattle.std.proofs.lemmas.Option.{slice_get_within}
use Rattle.refutation_check.specs.LiveClauses.{AreInRange, clauses_upto, IsLiveClause, TakesOut}

abbrev At : Type 0
At = ℕ → Option (List ℕ)

pub length-upto : (count : ℕ) (at : At) → length (clauses_upto count at) ≡ count
length-upto zero at = refl
length-upto (suc count) at = length-append (clauses_upto count at) (at (suc count) ∷ []) ∙ ap (λ (n : ℕ). n + 1) (length-upto count at) ∙ add-one count

-- the place behind a list, and the places in it
get-last : (xs : List (Option (List ℕ))) (x : Option (List ℕ)) (i : ℕ) → i ≡ length xs → slice_get (xs ++ x ∷ []) i ≡ Some x
get-last [] x zero is = refl
get-last [] x (suc i) is = absurd (omega (arith, is))
get-last (y ∷ xs) x zero is = absurd (omega (arith, is))
get-last (y ∷ xs) x (suc i) is = get-last xs x i (omega (arith, is))

get-front : (xs : List (Option (List ℕ))) (x : Option (List ℕ)) (i : ℕ) → i < length xs → slice_get (xs ++ x ∷ []) i ≡ slice_get xs i
get-front [] x i within = absurd (omega (arith, within))
get-front (y ∷ xs) x zero within = refl
get-front (y ∷ xs) x (suc i) within = get-front xs x i (omega (arith, within))

less-or : (i n : ℕ) → i < suc n → (i < n) ⊎ (i ≡ n)
less-or i n within = grind arith

pub get-upto : (count : ℕ) (at : At) (i : ℕ) → i < count → slice_get (clauses_upto count at) i ≡ Some (at (suc i))
get-upto zero at i within = absurd (omega arith)
get-upto (suc count) at i within = by (less-or i count within) (get-upto count at i)
  where
    by : (i < count) ⊎ (i ≡ count) → (i < count → slice_get (clauses_upto count at) i ≡ Some (at (suc i))) → slice_get (clauses_upto count at ++ at (suc count) ∷ []) i ≡ Some (at (suc i))
    by (inl less) before =
        get-front (clauses_upto count at) (at (suc count)) i (omega (arith, less, length-upto count at)) ∙ before less
    by (inr is) before =
        get-last (clauses_upto count at) (at (suc count)) i (is ∙ sym (length-upto count at)) ∙ ap (λ (n : ℕ). Some (at (suc n))) (sym is)

-- what stands at the numbers decides
pub same-upto : (count : ℕ) (at other : At) → ((number : ℕ) → number ≤ count → at number ≡ other number) → clauses_upto count at ≡ clauses_upto count other
same-upto zero at other same = refl
same-upto (suc count) at other same =
    let front = same-upto count at other (λ number within. same number (omega (arith, within))) in
    let last = same (suc count) (omega arith) in
    λ i. front i ++ last i ∷ []

-- one more clause
pub pushed : (count number : ℕ) (at new : At) (clause : List ℕ) → number ≡ count + 1
    → ((q : ℕ) → new q ≡ cond (nat_eq number q) (Some clause) (at q)) → clauses_upto number new ≡ clauses_upto count at ++ Some clause ∷ []
pushed count number at new clause is updates = rw (is, add-one) (λ i. front i ++ last i ∷ [])
  where
    other : (q : ℕ) → q ≤ count → nat_eq number q ≡ false
    other q within = by (nat_eq number q) refl
      where
        by : (b : Bool) → nat_eq number q ≡ b → b ≡ false
        by true same = absurd (omega (arith, eqb-true number q same, is, within))
        by false same = refl

    front : clauses_upto count new ≡ clauses_upto count at
    front = same-upto count new at (λ q within. updates q ∙ ap (λ b. cond b (Some clause) (at q)) (other q within))

    last : new (suc count) ≡ Some clause
    last = updates (suc count) ∙ ap (λ b. cond b (Some clause) (at (suc count))) (eq-eqb number (suc count) (omega (arith, is)))

pub range-pushed : (count number : ℕ) (at new : At) (clause : List ℕ) → number ≡ count + 1 → AreInRange count at
    → ((q : ℕ) → new q ≡ cond (nat_eq number q) (Some clause) (at q)) → AreInRange number new
range-pushed count number at new clause is range updates = λ q found stands. by q found (nat_eq number q) refl (sym (updates q) ∙ stands)
  where
    by : (q : ℕ) (found : List ℕ) (b : Bool) → nat_eq number q ≡ b → cond b (Some clause) (at q) ≡ Some found → (0 < q) × (q ≤ number)
    by q found true same stands = let e = eqb-true number q same in (omega (arith, e, is), omega (arith, e))
    by q found false same stands = let was = range q found stands in (was.0, omega (arith, was.1, is))

-- a clause that is live stands in the table, and the other way round
pub live-from : (count : ℕ) (at : At) (number : ℕ) (clause : List ℕ) → AreInRange count at → at number ≡ Some clause → IsLiveClause (clauses_upto count at) number clause
live-from count at number clause range stands =
    let within = range number clause stands in
    let back : suc (number - 1) ≡ number = omega (arith, within.0) in
    record {
      some = within.0;
      stands = get-upto count at (number - 1) (omega (arith, within.0, within.1)) ∙ ap (λ (n : ℕ). Some (at n)) back ∙ ap Some stands;
    }

pub from-live : (count : ℕ) (at : At) (number : ℕ) (clause : List ℕ) → IsLiveClause (clauses_upto count at) number clause → at number ≡ Some clause
from-live count at number clause live =
    let within : number - 1 < count = subst (λ (n : ℕ). number - 1 < n) (length-upto count at) (slice_get_within (clauses_upto count at) (number - 1) (Some clause) live.stands) in
    let back : suc (number - 1) ≡ number = omega (arith, live.some) in
    let both : Some (at (suc (number - 1))) ≡ Some (Some clause) = sym (get-upto count at (number - 1) within) ∙ live.stands in
    ap at (sym back) ∙ cc (both)

-- one less
set-last : (xs : List (Option (List ℕ))) (x y : Option (List ℕ)) (i : ℕ) → i ≡ length xs → set (xs ++ x ∷ []) i y ≡ xs ++ y ∷ []
set-last [] x y zero is = refl
set-last [] x y (suc i) is = absurd (omega (arith, is))
set-last (z ∷ xs) x y zero is = absurd (omega (arith, is))
set-last (z ∷ xs) x y (suc i) is = ap (λ (rest : List (Option (List ℕ))). z ∷ rest) (set-last xs x y i (omega (arith, is)))

set-front : (xs : List (Option (List ℕ))) (x y : Option (List ℕ)) (i : ℕ) → i < length xs → set (xs ++ x ∷ []) i y ≡ set xs i y ++ x ∷ []
set-front [] x y i within = absurd (omega (arith, within))
set-front (z ∷ xs) x y zero within = refl
set-front (z ∷ xs) x y (suc i) within = ap (λ (rest : List (Option (List ℕ))). z ∷ rest) (set-front xs x y i (omega (arith, within)))

out-upto : (count number : ℕ) (at new : At) → 0 < number → number ≤ count → ((q : ℕ) → new q ≡ cond (nat_eq number q) None (at q))
    → clauses_upto count new ≡ set (clauses_upto count at) (number - 1) None
out-upto zero number at new some within updates = absurd (omega (arith, some, within))
out-upto (suc count) number at new some within updates = by (less-or (number - 1) count (omega (arith, some, within))) (out-upto count number at new some)
  where
    by : (number - 1 < count) ⊎ (number - 1 ≡ count)
        → (number ≤ count → ((q : ℕ) → new q ≡ cond (nat_eq number q) None (at q)) → clauses_upto count new ≡ set (clauses_upto count at) (number - 1) None)
        → clauses_upto count new ++ new (suc count) ∷ [] ≡ set (clauses_upto count at ++ at (suc count) ∷ []) (number - 1) None
    by (inl less) before =
        let other : nat_eq number (suc count) ≡ false = grind arith in
        let last : new (suc count) ≡ at (suc count) = updates (suc count) ∙ ap (λ b. cond b None (at (suc count))) other in
        let front = before (omega (arith, less, some)) updates in
        (λ i. front i ++ last i ∷ [])
        ∙ sym (set-front (clauses_upto count at) (at (suc count)) None (number - 1) (omega (arith, less, length-upto count at)))
    by (inr is) before =
        let here : nat_eq number (suc count) ≡ true = eq-eqb number (suc count) (omega (arith, is, some)) in
        let last : new (suc count) ≡ None = updates (suc count) ∙ ap (λ b. cond b None (at (suc count))) here in
        let front : clauses_upto count new ≡ clauses_upto count at =
        same-upto count new at (λ q low. updates q ∙ ap (λ b. cond b None (at q)) (differs q low)) in
        (λ i. front i ++ last i ∷ [])
        ∙ sym (set-last (clauses_upto count at) (at (suc count)) None (number - 1) (is ∙ sym (length-upto count at)))
      where
        differs : (q : ℕ) → q ≤ count → nat_eq number q ≡ false
        differs q low = test (nat_eq number q) refl
          where
            test : (b : Bool) → nat_eq number q ≡ b → b ≡ false
            test true same = absurd (omega (arith, eqb-true number q same, is, some, low))
            test false same = refl

pub taken-out : (count number : ℕ) (at new : At) (clause : List ℕ) → AreInRange count at → at number ≡ Some clause
    → ((q : ℕ) → new q ≡ cond (nat_eq number q) None (at q)) → TakesOut (clauses_upto count at) number (clauses_upto count new)
taken-out count number at new clause range stands updates =
    let within = range number clause stands in
    record {
      clause = clause;
      live = live-from count at number clause range stands;
      rest = out-upto count number at new within.0 within.1 updates;
    }

pub range-out : (count number : ℕ) (at new : At) → AreInRange count at → ((q : ℕ) → new q ≡ cond (nat_eq number q) None (at q)) → AreInRange count new
range-out count number at new range updates = λ q found stands. by q found (nat_eq number q) (sym (updates q) ∙ stands)
  where
    by : (q : ℕ) (found : List ℕ) (b : Bool) → cond b None (at q) ≡ Some found → (0 < q) × (q ≤ count)
    by q found true stands = absurd (cc)
    by q found false stands = range q found stands

-- whether the clause was there
pub taken-or : (result : Option (List ℕ)) (test : Bool) (count number : ℕ) (at new : At) → AreInRange count at → test ≡ is_some result → result ≡ at number
    → ((q : ℕ) → new q ≡ cond (nat_eq number q) None (at q))
    → MatchBool test (TakesOut (clauses_upto count at) number (clauses_upto count new)) ((clause : List ℕ) → ¬ (IsLiveClause (clauses_upto count at) number clause))
taken-or (Some clause) true count number at new range test found updates = taken-out count number at new clause range (sym found) updates
taken-or (Some clause) false count number at new range test found updates = absurd (cc)
taken-or None true count number at new range test found updates = absurd (cc)
taken-or None false count number at new range test found updates = λ clause live. let stands = from-live count at number clause live in cc (stands, found)
