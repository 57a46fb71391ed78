-- A walk along a watch list by `first_watch` and `next_watch`: each handle is in the list, and less is left of the list
-- at each step.
use Rattle.std.proofs.Common.{◌≡◌, ℕ, ◌<◌, ◌≢◌, inl, inr, List, [], ◌∷◌, Option, Some, None, cond, length, slice_get, refl, sym, ◌∙◌, ap, arith}
use Rattle.std.proofs.lemmas.Bool.Decides.{eqb_tells}
use Rattle.clause_pool.specs.PoolValue.{IsIn, NoneTwice, following, rest_from}
use Rattle.clause_pool.proofs.Chains.{some_same, some_not_none}

pub IsIn-first : (list : List ℕ) (k : ℕ) → slice_get list 0 ≡ Some k → IsIn k list
IsIn-first [] k e = absurd (some_not_none k (sym e))
IsIn-first (x ∷ xs) k e = inl (sym (some_same x k e))

pub IsIn-following : (list : List ℕ) (h k : ℕ) → following h list ≡ Some k → IsIn k list
IsIn-following [] h k e = absurd (some_not_none k (sym e))
IsIn-following (x ∷ xs) h k e = elim (eqb_tells x h) [
  | inl same ↦ inr (IsIn-first xs k (sym (ap (λ b. cond b (slice_get xs 0) (following h xs)) same.0) ∙ e))
  | inr differ ↦ inr (IsIn-following xs h k (sym (ap (λ b. cond b (slice_get xs 0) (following h xs)) differ.0) ∙ e))
]

rest_from-head : (x : ℕ) (xs : List ℕ) → rest_from (Some x) (x ∷ xs) ≡ x ∷ xs
rest_from-head x xs = elim (eqb_tells x x) [
  | inl same ↦ ap (λ b. cond b (x ∷ xs) (rest_from (Some x) xs)) same.0
  | inr differ ↦ absurd (differ.1 refl)
]

rest_from-tail : (x : ℕ) (xs : List ℕ) (o : Option ℕ) → (o ≢ Some x) → rest_from o (x ∷ xs) ≡ rest_from o xs
rest_from-tail x xs None ne = refl
rest_from-tail x xs (Some k) ne = elim (eqb_tells x k) [
  | inl same ↦ absurd (ne (ap Some (sym same.1)))
  | inr differ ↦ ap (λ b. cond b (x ∷ xs) (rest_from (Some k) xs)) differ.0
]

rest_from-first : (xs : List ℕ) → rest_from (slice_get xs 0) xs ≡ xs
rest_from-first [] = refl
rest_from-first (x ∷ xs) = rest_from-head x xs

pub rest_from-following : (list : List ℕ) (h : ℕ) → NoneTwice list → IsIn h list → rest_from (Some h) list ≡ h ∷ rest_from (following h list) list
rest_from-following [] h once i = absurd i
rest_from-following (x ∷ xs) h once i = elim (eqb_tells x h) [
  | inl same ↦
      (let next : following h (x ∷ xs) ≡ slice_get xs 0 = ap (λ b. cond b (slice_get xs 0) (following h xs)) same.0 in
      let not_x : slice_get xs 0 ≢ Some x = λ e. once.0 (IsIn-first xs x e) in
      ap (λ b. cond b (x ∷ xs) (rest_from (Some h) xs)) same.0
      ∙ ap (λ y. y ∷ xs) same.1
      ∙ ap (λ ys. h ∷ ys) (sym (rest_from-first xs) ∙ sym (rest_from-tail x xs (slice_get xs 0) not_x) ∙ ap (λ o. rest_from o (x ∷ xs)) (sym next)))
  | inr differ ↦
      (let next : following h (x ∷ xs) ≡ following h xs = ap (λ b. cond b (slice_get xs 0) (following h xs)) differ.0 in
      let later : IsIn h xs = elim i [ inl is ↦ absurd (differ.1 (sym is)) | inr r ↦ r ] in
      let not_x : following h xs ≢ Some x = λ e. once.0 (IsIn-following xs h x e) in
      ap (λ b. cond b (x ∷ xs) (rest_from (Some h) xs)) differ.0
      ∙ rest_from-following xs h once.1 later
      ∙ ap (λ ys. h ∷ ys) (sym (rest_from-tail x xs (following h xs) not_x) ∙ ap (λ o. rest_from o (x ∷ xs)) (sym next)))
]

-- a step shortens what is left
pub rest_from-shorter : (list : List ℕ) (h : ℕ) → NoneTwice list → IsIn h list → length (rest_from (following h list) list) < length (rest_from (Some h) list)
rest_from-shorter list h once i = omega (arith, ap length (rest_from-following list h once i))
