-- Which ints have a number of bits.
use Rattle.std.proofs.Common.{◌≡◌, ◌<◌, ◌+◌, ◌*◌, ◌/◌, ◌%◌, ℕ, subst, arith, w32, of_z, eqb, eqb-true, eq-eqb}
use Rattle.std.specs.Prelude.{ℤ, pos, negsuc, neg_ℤ, ◌≤ℤ◌, ◌<ℤ◌, IsTrue, FitsSigned}
use lib.Signed.{shr_z}
use Rattle.std.proofs.lemmas.Int.{ints}
use Rattle.std.proofs.lemmas.Nat.{div_below, mod_below, div-add-mod'}
use Rattle.std.proofs.Math.Nat.{div-le_self}

below_one : (n m : ℕ) → n < m → n / m ≡ 0
below_one n m lt = omega (arith, div_below n m 1 (omega arith) (omega arith))

pub below_all : (n m : ℕ) → 0 < m → n / m ≡ 0 → n < m
below_all n m some e =
    let P : ℕ → Type 0 = λ q. q * m + n % m ≡ n in
    let h = subst P e (div-add-mod' n m) in
    omega (arith, h, mod_below n m some)

-- the high bits of an int are all 1 exactly where it fits, if they are not all 0
pub fits_else : (a : ℤ) (m : ℕ) → 0 < m → FitsSigned w32 a → (of_z w32 (shr_z a m) ≡ 0 → ⊥) →
    (IsTrue (eqb (of_z w32 (shr_z a m)) 4294967295) → (neg_ℤ (pos m) ≤ℤ a) × (a <ℤ pos m)) ×
    ((neg_ℤ (pos m) ≤ℤ a) × (a <ℤ pos m) → IsTrue (eqb (of_z w32 (shr_z a m)) 4294967295))
fits_else (pos n) m some f ne = (
  (λ t. absurd (omega (arith, eqb-true _ _ t, div-le_self n m, f.sfits))),
  (λ fit. let lt : n < m = omega (arith, ints, fit.1) in absurd (ne (below_one n m lt))),
)
fits_else (negsuc n) m some f ne = (
  (λ t. let e : n / m ≡ 0 = omega (arith, eqb-true _ _ t, div-le_self n m, f.sfits) in
      let lt = below_all n m some e in (omega (arith, ints, lt), omega (arith, ints))),
  (λ fit. let lt : n < m = omega (arith, ints, fit.0) in
      let e = below_one n m lt in eq-eqb _ _ (omega (arith, e))),
)
