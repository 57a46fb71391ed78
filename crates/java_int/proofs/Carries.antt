-- The bits of sums of natural numbers.
use Rattle.std.proofs.Common.{◌≡◌, ◌<◌, ◌+◌, ◌*◌, ◌/◌, ◌%◌, ◌^◌, ℕ, zero, suc, refl, sym, ap, ap₂, subst, ◌∙◌, arith}
use Rattle.std.specs.Int.{bit_at}
use Rattle.std.proofs.lemmas.Nat.{mod-pow-add, pow_pos, shr-shr, div-add-mod'}
use Rattle.std.proofs.Math.Nat.{mul-add-div_right}
use Rattle.std.proofs.lemmas.Nat.Bits.{bit_at_cat_low}
use Rattle.java_int.specs.BitLaws.{carry_of}

-- the low bits of a number with one more
pub low_more : (n k : ℕ) → n % 2 ^ suc k ≡ bit_at n k * 2 ^ k + n % 2 ^ k
low_more n k =
    let e : 1 + k ≡ suc k = omega arith in
    let P : ℕ → Type 0 = λ m. n % 2 ^ m ≡ bit_at n k * 2 ^ k + n % 2 ^ k in
    subst P e (mod-pow-add n 1 k)

halved : (n k : ℕ) → n / 2 ^ suc k ≡ n / 2 ^ k / 2
halved n k =
    let e : k + 1 ≡ suc k = omega arith in
    let P : ℕ → Type 0 = λ m. n / 2 ^ m ≡ n / 2 ^ k / 2 in
    subst P e (sym (shr-shr n k 1))

-- the carry into a place is what the sum of the bits below it leaves over
pub low_carry : (x y first at : ℕ) → (x % 2 ^ at + y % 2 ^ at + first) / 2 ^ at ≡ carry_of first (bit_at x) (bit_at y) at
low_carry x y first zero = omega arith
low_carry x y first (suc at) =
    let s = x % 2 ^ at + y % 2 ^ at + first in
    let sum : x % 2 ^ suc at + y % 2 ^ suc at + first ≡ (bit_at x at + bit_at y at) * 2 ^ at + s = omega (arith, low_more x at, low_more y at) in
    ap (λ n. n / 2 ^ suc at) sum
    ∙ halved ((bit_at x at + bit_at y at) * 2 ^ at + s) at
    ∙ ap (λ n. n / 2) (mul-add-div_right (pow_pos at) (bit_at x at + bit_at y at) s)
    ∙ ap (λ n. (bit_at x at + bit_at y at + n) / 2) (low_carry x y first at)

-- a bit of a sum is that of the bits and the carry
pub sum_bit : (x y first at : ℕ) → bit_at (x + y + first) at ≡ (bit_at x at + bit_at y at + carry_of first (bit_at x) (bit_at y) at) % 2
sum_bit x y first at =
    let m = 2 ^ at in
    let s = x % m + y % m + first in
    let whole : x + y + first ≡ (x / m + y / m) * m + s = omega (arith, div-add-mod' x m, div-add-mod' y m) in
    let parts : (x + y + first) / m ≡ x / m + y / m + carry_of first (bit_at x) (bit_at y) at =
    ap (λ n. n / m) whole ∙ mul-add-div_right (pow_pos at) (x / m + y / m) s ∙ ap (λ n. x / m + y / m + n) (low_carry x y first at) in
    ap (λ n. n % 2) parts ∙ omega arith

-- what is left modulo 2 ^ 32 has the same low bits
pub bit_mod : (n at : ℕ) → at < 32 → bit_at (n % 2 ^ 32) at ≡ bit_at n at
bit_mod n at lt =
    sym (bit_at_cat_low (n / 2 ^ 32) 32 (n % 2 ^ 32) at lt) ∙ ap (λ m. bit_at m at) (div-add-mod' n (2 ^ 32))

-- the carry is that of equal bits
pub carry_same : (first : ℕ) (x y x' y' : ℕ → ℕ) (at : ℕ) → ((k : ℕ) → k < at → x k ≡ x' k) → ((k : ℕ) → k < at → y k ≡ y' k) →
    carry_of first x y at ≡ carry_of first x' y' at
carry_same first x y x' y' zero same_x same_y = refl
carry_same first x y x' y' (suc at) same_x same_y =
    let lt : at < suc at = omega arith in
    let rest = carry_same first x y x' y' at (λ k h. same_x k (omega (arith, h))) (λ k h. same_y k (omega (arith, h))) in
    ap (λ n. n / 2) (ap₂ (λ n m. n + m) (ap₂ (λ n m. n + m) (same_x at lt) (same_y at lt)) rest)
