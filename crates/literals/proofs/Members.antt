-- Members of lists.
use Rattle.std.proofs.Common.{◌≡◌, ℕ, zero, suc, ◌<◌, length, get_or, arith, ◌⊎◌, inl, inr, List, [], ◌∷◌, map, refl, sym, ap}
use Rattle.std.proofs.lemmas.Bool.{cases_eq}
use Rattle.clause_pool.specs.PoolValue.{IsIn}

pub IsIn-map : (f : ℕ → ℕ) (x : ℕ) (xs : List ℕ) → IsIn x xs → IsIn (f x) (map f xs)
IsIn-map f x [] i = absurd i
IsIn-map f x (y ∷ ys) i = elim i [ inl e ↦ inl (ap f e) | inr r ↦ inr (IsIn-map f x ys r) ]

pub map-IsIn : (f : ℕ → ℕ) (x : ℕ) (xs : List ℕ) → IsIn x (map f xs) → (y : ℕ) × IsIn y xs × (x ≡ f y)
map-IsIn f x [] i = absurd i
map-IsIn f x (y ∷ ys) i = elim i [
  | inl e ↦ (y, inl refl, e)
  | inr r ↦ (let p = map-IsIn f x ys r in (p.0, inr p.1, p.2))
]

pub IsIn-decided : (x : ℕ) (xs : List ℕ) → IsIn x xs ⊎ (IsIn x xs → ⊥)
IsIn-decided x [] = inr (λ i. i)
IsIn-decided x (y ∷ ys) = elim (cases_eq x y) [
  | inl e ↦ inl (inl e)
  | inr ne ↦ elim (IsIn-decided x ys) [ inl i ↦ inl (inr i) | inr out ↦ inr (λ i. elim i [ inl e ↦ ne e | inr r ↦ out r ]) ]
]

pub IsIn-place : (xs : List ℕ) (k : ℕ) → k < length xs → IsIn (get_or xs k 0) xs
IsIn-place [] k lt = absurd (omega arith)
IsIn-place (x ∷ xs) zero lt = inl refl
IsIn-place (x ∷ xs) (suc k) lt = inr (IsIn-place xs k (omega arith))

pub place-IsIn : (xs : List ℕ) (x : ℕ) → IsIn x xs → (k : ℕ) × (k < length xs) × (get_or xs k 0 ≡ x)
place-IsIn [] x i = absurd i
place-IsIn (y ∷ ys) x i = elim i [
  | inl e ↦ (0, omega arith, sym e)
  | inr r ↦ (let p = place-IsIn ys x r in (suc p.0, omega (arith, p.1), p.2))
]
