-- A walk along a list of handles.
use Rattle.std.proofs.Common.{◌≡◌, ◌≢◌, ℕ, inl, inr, List, [], ◌∷◌, ◌++◌, Option, Some, None, cond, slice_get, not, refl, sym, ◌∙◌, ap, subst}
use Rattle.std.proofs.lemmas.Bool.Decides.{eqb_tells}
use Rattle.clause_pool.specs.PoolValue.{IsIn, NoneTwice, following, rest_from, without}
use Rattle.clause_pool.proofs.Chains.{without-absent}
use Rattle.clause_pool.proofs.Walks.{IsIn-first}
use Rattle.propagation.proofs.Consistency.{IsIn-append}

rest_from-head : (x : ℕ) (xs : List ℕ) → rest_from (Some x) (x ∷ xs) ≡ x ∷ xs
rest_from-head x xs = elim (eqb_tells x x) [
  | inl same ↦ ap (λ b. cond b (x ∷ xs) (rest_from (Some x) xs)) same.0
  | inr differ ↦ absurd (differ.1 refl)
]

rest_from-skip : (o : Option ℕ) (x : ℕ) (xs : List ℕ) → (o ≢ Some x) → rest_from o (x ∷ xs) ≡ rest_from o xs
rest_from-skip None x xs ne = refl
rest_from-skip (Some k) x xs ne = elim (eqb_tells x k) [
  | inl same ↦ absurd (ne (ap Some (sym same.1)))
  | inr differ ↦ ap (λ b. cond b (x ∷ xs) (rest_from (Some k) xs)) differ.0
]

-- the rest from its own first handle on
pub rest_is : (visited rest : List ℕ) → NoneTwice (visited ++ rest) → rest_from (slice_get rest 0) (visited ++ rest) ≡ rest
rest_is [] [] once = refl
rest_is [] (x ∷ rest) once = rest_from-head x rest
rest_is (v ∷ visited) rest once =
    rest_from-skip (slice_get rest 0) v (visited ++ rest) (λ e. once.0 (IsIn-append v visited rest (IsIn-first rest v e))) ∙ rest_is visited rest once.1

pub following-split : (visited rest : List ℕ) (x : ℕ) → NoneTwice (visited ++ x ∷ rest) → following x (visited ++ x ∷ rest) ≡ slice_get rest 0
following-split [] rest x once = elim (eqb_tells x x) [
  | inl same ↦ ap (λ b. cond b (slice_get rest 0) (following x rest)) same.0
  | inr differ ↦ absurd (differ.1 refl)
]
following-split (v ∷ visited) rest x once = elim (eqb_tells v x) [
  | inl same ↦ absurd (once.0 (subst (λ y. IsIn y (visited ++ x ∷ rest)) (sym same.1) (IsIn-append x visited (x ∷ rest) (inl refl))))
  | inr differ ↦ ap (λ b. cond b (slice_get (visited ++ x ∷ rest) 0) (following x (visited ++ x ∷ rest))) differ.0 ∙ following-split visited rest x once.1
]

without-head : (x : ℕ) (xs : List ℕ) → without x (x ∷ xs) ≡ without x xs
without-head x xs = elim (eqb_tells x x) [
  | inl same ↦ ap (λ b. cond (not b) (x ∷ without x xs) (without x xs)) same.0
  | inr differ ↦ absurd (differ.1 refl)
]

without-skip : (x y : ℕ) (xs : List ℕ) → y ≢ x → without x (y ∷ xs) ≡ y ∷ without x xs
without-skip x y xs ne = elim (eqb_tells y x) [
  | inl same ↦ absurd (ne same.1)
  | inr differ ↦ ap (λ b. cond (not b) (y ∷ without x xs) (without x xs)) differ.0
]

-- a handle that leaves the list
pub without-split : (visited rest : List ℕ) (x : ℕ) → NoneTwice (visited ++ x ∷ rest) → without x (visited ++ x ∷ rest) ≡ visited ++ rest
without-split [] rest x once = without-head x rest ∙ without-absent x rest once.0
without-split (v ∷ visited) rest x once =
    without-skip x v (visited ++ x ∷ rest) (λ e. once.0 (subst (λ y. IsIn y (visited ++ x ∷ rest)) (sym e) (IsIn-append x visited (x ∷ rest) (inl refl))))
    ∙ ap (λ xs. v ∷ xs) (without-split visited rest x once.1)

pub NoneTwice-rest : (visited rest : List ℕ) (x : ℕ) → NoneTwice (visited ++ x ∷ rest) → IsIn x rest → ⊥
NoneTwice-rest [] rest x once i = once.0 i
NoneTwice-rest (v ∷ visited) rest x once i = NoneTwice-rest visited rest x once.1 i

pub visited-more : (visited rest : List ℕ) (x : ℕ) → visited ++ x ∷ rest ≡ (visited ++ x ∷ []) ++ rest
visited-more [] rest x = refl
visited-more (v ∷ visited) rest x = ap (λ xs. v ∷ xs) (visited-more visited rest x)
