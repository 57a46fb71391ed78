-- The waiting variables, in another order or in a vector that was written anew.
use Rattle.std.proofs.Common.{◌≡◌, ℕ, inl, inr, List, [], ◌∷◌, ◌++◌, Option, Some, None, true, false, length, take, drop, refl, ◌∙◌, ap, subst, arith}
use Rattle.std.specs.List.{All}
use Rattle.std.specs.Option.{is_some}
use Rattle.std.proofs.lemmas.Bool.{true≢false, false≢true}
use Rattle.std.specs.List.Sorted.{IsPermutation}
use Rattle.std.proofs.lemmas.List.{get_or_default, take-append-le}
use Rattle.std.proofs.lemmas.List.Sorted.{All-permutation, IsPermutation-sym}
use Rattle.clause_pool.specs.PoolValue.{IsIn}
use Rattle.literals.proofs.Members.{IsIn-place, place-IsIn}

pub IsIn-permuted : (old new : List ℕ) (x : ℕ) → IsPermutation old new → IsIn x old → IsIn x new
IsIn-permuted old new x p i =
    let every : All (λ y. IsIn y new) new = λ k d lt. subst (λ y. IsIn y new) (get_or_default new k 0 d lt) (IsIn-place new k lt) in
    let at = place-IsIn old x i in
    subst (λ y. IsIn y new) at.2 (All-permutation (λ y. IsIn y new) new old (IsPermutation-sym old new p) every at.0 0 at.1)

take_length : {A : Type 0} (xs : List A) → take (length xs) xs ≡ xs
take_length [] = refl
take_length {A} (x ∷ xs) = ap (λ ys. x ∷ ys) (take_length {A = A} xs)

pub refilled : {A : Type 0} (n : ℕ) (ws items : List A) → n ≡ length ws → take n (ws ++ drop (length ws) items) ≡ ws
refilled {A} n ws items e = take-append-le n ws (drop (length ws) items) (omega (arith, e)) ∙ ap (λ k. take k ws) e ∙ take_length {A = A} ws

pub IsIn-end : (xs : List ℕ) (x : ℕ) → IsIn x (xs ++ x ∷ [])
IsIn-end [] x = inl refl
IsIn-end (y ∷ xs) x = inr (IsIn-end xs x)

pub IsIn-front : (xs ys : List ℕ) (x : ℕ) → IsIn x xs → IsIn x (xs ++ ys)
IsIn-front [] ys x i = absurd i
IsIn-front (y ∷ xs) ys x i = elim i [ inl e ↦ inl e | inr later ↦ inr (IsIn-front xs ys x later) ]

pub IsIn-but_end : (xs : List ℕ) (x y : ℕ) → IsIn y (xs ++ x ∷ []) → (y ≡ x → ⊥) → IsIn y xs
IsIn-but_end [] x y i ne = elim i [ inl e ↦ absurd (ne e) | inr none ↦ none ]
IsIn-but_end (z ∷ xs) x y i ne = elim i [ inl e ↦ inl e | inr later ↦ inr (IsIn-but_end xs x y later ne) ]

pub none_from : (o : Option ℕ) → is_some o ≡ false → o ≡ None
none_from None e = refl
none_from (Some x) e = absurd (true≢false e)

pub some_from : (o : Option ℕ) → is_some o ≡ true → (x : ℕ) × (o ≡ Some x)
some_from None e = absurd (false≢true e)
some_from (Some x) e = (x, refl)
