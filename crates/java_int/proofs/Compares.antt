-- The laws of comparison and of width by bits.
use Rattle.std.proofs.Common.{◌≡◌, ◌<◌, ◌≤◌, ◌+◌, ◌-◌, ◌*◌, ◌/◌, ◌%◌, ◌^◌, ℕ, zero, suc, cond, eqb, refl, sym, ap, ◌∙◌, arith, inl, inr, ◌⊎◌, ◌↔◌, ne_eqb, eq-eqb}
use Rattle.std.specs.Prelude.{ℤ, pos, negsuc, ◌<ℤ◌, ◌-ℤ◌}
use Rattle.std.specs.Int.{bit_at}
use Rattle.std.proofs.lemmas.Bool.{cases_lt, cases_eq}
use Rattle.std.proofs.lemmas.Int.{ints}
use Rattle.std.proofs.lemmas.Nat.{pow_pos, mod_below, shr-shr, shr_le}
use Rattle.std.proofs.lemmas.Nat.Bits.{bit_at_above, bit_at-lt, same_from_bits_below, bit_at-zero}
use Rattle.java_int.specs.JavaInt.{Fits, unsigned_of, bit_of}
use Rattle.java_int.specs.BitLaws.{lesser_of}
use Rattle.java_int.proofs.Ranges.{below_all}
use Rattle.java_int.proofs.Carries.{low_more, bit_mod}
use Rattle.java_int.proofs.SignBits.{neg_bit}

-- the low bits tell which of two numbers is the lesser
low_lesser : (m n at : ℕ) → ((lesser_of (bit_at m) (bit_at n) at ≡ 1) × (m % 2 ^ at < n % 2 ^ at)) ⊎ ((lesser_of (bit_at m) (bit_at n) at ≡ 0) × (n % 2 ^ at ≤ m % 2 ^ at))
low_lesser m n zero = inr (refl, omega (arith, mod_below n 1 (omega arith), mod_below m 1 (omega arith)))
low_lesser m n (suc at) =
    let x = bit_at m at in
    let y = bit_at n at in
    let low = lesser_of (bit_at m) (bit_at n) at in
    let power = pow_pos at in
    let below_m : m % 2 ^ at < 2 ^ at = mod_below m (2 ^ at) power in
    let below_n : n % 2 ^ at < 2 ^ at = mod_below n (2 ^ at) power in
    elim (cases_eq x y) [
      | inl same ↦ (let is : lesser_of (bit_at m) (bit_at n) (suc at) ≡ low = ap (λ b. cond b low y) (eq-eqb x y same) in
          let rows = ap (λ z. z * 2 ^ at) same in
          elim (low_lesser m n at) [
            | inl h ↦ inl (is ∙ h.0, omega (arith, low_more m at, low_more n at, rows, h.1))
            | inr h ↦ inr (is ∙ h.0, omega (arith, low_more m at, low_more n at, rows, h.1))
          ])
      | inr other ↦ (let is : lesser_of (bit_at m) (bit_at n) (suc at) ≡ y = ap (λ b. cond b low y) (ne_eqb x y other) in
          elim (cases_lt y 1) [
            | inl zero_y ↦ (let ey : y ≡ 0 = omega (arith, zero_y) in
                let ex : x ≡ 1 = omega (arith, bit_at-lt m at, other, ey) in
                inr (is ∙ ey, omega (arith, low_more m at, low_more n at, ap (λ z. z * 2 ^ at) ex, ap (λ z. z * 2 ^ at) ey, below_n)))
            | inr one_y ↦ (let ey : y ≡ 1 = omega (arith, one_y, bit_at-lt n at) in
                let ex : x ≡ 0 = omega (arith, bit_at-lt m at, other, ey) in
                inl (is ∙ ey, omega (arith, low_more m at, low_more n at, ap (λ z. z * 2 ^ at) ex, ap (λ z. z * 2 ^ at) ey, below_m)))
          ])
    ]

-- an int by its sign and its other bits
sign_split : (a : ℤ) → Fits 32 a → ((bit_of a 31 ≡ 0) × (a ≡ pos (unsigned_of 32 a % 2 ^ 31))) ⊎ ((bit_of a 31 ≡ 1) × (a ≡ pos (unsigned_of 32 a % 2 ^ 31) -ℤ pos (2 ^ 31)))
sign_split (pos m) f =
    let small : m < 2 ^ 31 = omega (arith, ints, f.1) in
    inl (omega (arith, small), ap pos (omega (arith, small)))
sign_split (negsuc m) f =
    let small : m < 2 ^ 31 = omega (arith, ints, f.0) in
    inr (omega (arith, small), omega (arith, ints, small))

decided : (E : ℕ) (P : Type 0) → ((E ≡ 1) × P) ⊎ ((E ≡ 0) × (P → ⊥)) → P ↔ (E ≡ 1)
decided E P (inl h) = ((λ p. h.0), (λ e. h.1))
decided E P (inr h) = ((λ p. absurd (h.1 p)), (λ e. absurd (omega (arith, e, h.0))))

pub less_bits : (a b : ℤ) → Fits 32 a → Fits 32 b →
    (a <ℤ b) ↔ (cond (eqb (bit_of a 31) (bit_of b 31)) (lesser_of (bit_of a) (bit_of b) 31) (bit_of a 31) ≡ 1)
less_bits a b f g =
    let s = bit_of a 31 in
    let t = bit_of b 31 in
    let low = lesser_of (bit_of a) (bit_of b) 31 in
    let m = unsigned_of 32 a % 2 ^ 31 in
    let n = unsigned_of 32 b % 2 ^ 31 in
    let below_m : m < 2 ^ 31 = mod_below (unsigned_of 32 a) (2 ^ 31) (pow_pos 31) in
    let below_n : n < 2 ^ 31 = mod_below (unsigned_of 32 b) (2 ^ 31) (pow_pos 31) in
    let lows = low_lesser (unsigned_of 32 a) (unsigned_of 32 b) 31 in
    decided (cond (eqb s t) low s) (a <ℤ b)
    (elim (sign_split a f) [
      | inl x ↦ elim (sign_split b g) [
        | inl y ↦ (let is : cond (eqb s t) low s ≡ low = ap (λ c. cond c low s) (eq-eqb s t (omega (arith, x.0, y.0))) in
            elim lows [
              | inl h ↦ inl (is ∙ h.0, omega (arith, ints, x.1, y.1, h.1))
              | inr h ↦ inr (is ∙ h.0, λ lt. omega (arith, ints, x.1, y.1, h.1, lt))
            ])
        | inr y ↦ (let is : cond (eqb s t) low s ≡ s = ap (λ c. cond c low s) (ne_eqb s t (λ e. omega (arith, e, x.0, y.0))) in
            inr (is ∙ x.0, λ lt. omega (arith, ints, x.1, y.1, below_n, lt)))
      ]
      | inr x ↦ elim (sign_split b g) [
        | inl y ↦ (let is : cond (eqb s t) low s ≡ s = ap (λ c. cond c low s) (ne_eqb s t (λ e. omega (arith, e, x.0, y.0))) in
            inl (is ∙ x.0, omega (arith, ints, x.1, y.1, below_m)))
        | inr y ↦ (let is : cond (eqb s t) low s ≡ low = ap (λ c. cond c low s) (eq-eqb s t (omega (arith, x.0, y.0))) in
            elim lows [
              | inl h ↦ inl (is ∙ h.0, omega (arith, ints, x.1, y.1, h.1))
              | inr h ↦ inr (is ∙ h.0, λ lt. omega (arith, ints, x.1, y.1, h.1, lt))
            ])
      ]
    ])

-- a number is below a power of two exactly where its bits from there on are 0
high_bits : (n high : ℕ) → high < 32 → n < 2 ^ 31 → ((k : ℕ) → suc high ≤ k → k < 32 → bit_at n k ≡ bit_at n high) → n < 2 ^ high
high_bits n high inside small same =
    let top : bit_at n 31 ≡ 0 = bit_at_above n 31 31 small (omega arith) in
    let at_high : bit_at n high ≡ 0 = elim (cases_lt high 31) [
      | inl lt ↦ sym (same 31 (omega (arith, lt)) (omega arith)) ∙ top
      | inr ge ↦ (let e : high ≡ 31 = omega (arith, ge, inside) in ap (bit_at n) e ∙ top)
    ] in
    let bit : (i : ℕ) → i < 32 → bit_at (n / 2 ^ high) i ≡ bit_at 0 i = λ i lt.
    ap (λ m. m % 2) (shr-shr n high i) ∙ elim (cases_lt (high + i) 32) [
      | inl within ↦ elim (cases_lt high (high + i)) [
        | inl more ↦ same (high + i) (omega (arith, more)) within ∙ at_high ∙ sym (bit_at-zero i)
        | inr none ↦ (let e : high + i ≡ high = omega (arith, none) in ap (bit_at n) e ∙ at_high ∙ sym (bit_at-zero i))
      ]
      | inr past ↦ bit_at_above n 31 (high + i) small (omega (arith, past)) ∙ sym (bit_at-zero i)
    ] in
    let none = same_from_bits_below 32 (n / 2 ^ high) 0 (omega (arith, shr_le n high, small)) (omega arith) bit in
    below_all n (2 ^ high) (pow_pos high) none

low_only : (n high k : ℕ) → n < 2 ^ high → suc high ≤ k → bit_at n k ≡ bit_at n high
low_only n high k small le = bit_at_above n high k small (omega (arith, le)) ∙ sym (bit_at_above n high high small (omega arith))

pub fits_bits : (width : ℕ) (a : ℤ) → Fits 32 a → 1 ≤ width → width ≤ 32 →
    Fits width a ↔ ((at : ℕ) → width ≤ at → at < 32 → bit_of a at ≡ bit_of a (width - 1))
fits_bits width (pos n) f one le =
    let small : n < 2 ^ 31 = omega (arith, ints, f.1) in
    let inside : width - 1 < 32 = omega (arith, one, le) in (
      (λ fit at ge lt. let below : n < 2 ^ (width - 1) = omega (arith, ints, fit.1) in
          bit_mod n at lt ∙ low_only n (width - 1) at below (omega (arith, one, ge)) ∙ sym (bit_mod n (width - 1) inside)),
      (λ same. let below = high_bits n (width - 1) inside small
          (λ k ge lt. sym (bit_mod n k lt) ∙ same k (omega (arith, ge)) lt ∙ bit_mod n (width - 1) inside) in
          (omega (arith, ints), omega (arith, ints, below))),
    )
fits_bits width (negsuc n) f one le =
    let small : n < 2 ^ 31 = omega (arith, ints, f.0) in
    let inside : width - 1 < 32 = omega (arith, one, le) in
    let size : n < 2 ^ 32 = omega (arith, small) in (
      (λ fit at ge lt. let below : n < 2 ^ (width - 1) = omega (arith, ints, fit.0) in
          neg_bit n at size lt ∙ ap (λ x. 1 - x) (low_only n (width - 1) at below (omega (arith, one, ge))) ∙ sym (neg_bit n (width - 1) size inside)),
      (λ same. let below = high_bits n (width - 1) inside small
          (λ k ge lt. let e : 1 - bit_at n k ≡ 1 - bit_at n (width - 1) = sym (neg_bit n k size lt) ∙ same k (omega (arith, ge)) lt ∙ neg_bit n (width - 1) size inside in
          omega (arith, e, bit_at-lt n k, bit_at-lt n (width - 1))) in
          (omega (arith, ints, below), omega (arith, ints))),
    )
