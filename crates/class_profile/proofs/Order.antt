-- The order of numbers.
use Rattle.std.proofs.Common.{◌≡◌, ◌<◌, ◌≤◌, ◌+◌, ◌⊎◌, inl, inr, ℕ, arith}
use Rattle.std.proofs.lemmas.Bool.{cases_order}

pub below_next : (m n : ℕ) → m < n + 1 → (m < n) ⊎ (m ≡ n)
below_next m n h = elim (cases_order m n) [
  | inl same ↦ inr same
  | inr other ↦ elim other [ inl less ↦ inl less | inr more ↦ absurd (omega arith) ]
]

pub not_below : (m n : ℕ) → (m < n → ⊥) → n ≤ m
not_below m n h = elim (cases_order m n) [
  | inl same ↦ omega arith
  | inr other ↦ elim other [ inl less ↦ absurd (h less) | inr more ↦ omega arith ]
]
