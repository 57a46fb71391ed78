-- The laws of the operations by their bits.
use Rattle.std.proofs.Common.{◌≡◌, ◌<◌, ◌≤◌, ◌+◌, ◌-◌, ◌*◌, ◌/◌, ◌%◌, ◌^◌, ℕ, min, max, refl, sym, ap, ap₂, subst, ◌∙◌, arith, w32}
use Rattle.std.specs.Prelude.{ℤ, pos, negsuc, neg_ℤ, ◌+ℤ◌, ◌-ℤ◌, bit_and, bit_or, bit_xor, FitsSigned}
use Rattle.std.specs.Int.{cast_signed, cast_unsigned, bit_at, bit_not, int_wrap}
use Rattle.std.proofs.lemmas.Int.{ints, wrapping_add_is, wrapping_sub_is, wrapping_neg_is, SFits-int_wrap, of_z-to_z, to_z-of_z}
use Rattle.std.proofs.lemmas.Nat.{pow_pos, mod_below, shr-shr, shr_le, or_lt, xor_lt, and_le_l}
use Rattle.std.proofs.lemmas.Nat.Bits.{bit_at_and, bit_at_or, bit_at_xor, bit_at_not, bit_at-zero, bit_at_above, bit_at_cat_low, bit_at_cat_high, same_from_bits_below}
use Rattle.java_int.specs.JavaInt.{Fits, unsigned_of, signed_of, bit_of, distance_of, add_of, sub_of, neg_of, and_of, or_of, xor_of, shl_of, ushr_of}
use Rattle.java_int.specs.BitLaws.{carry_of, opposite}
use Rattle.java_int.proofs.Wraps.{signed_is, unsigned_is, unsigned_lt, wrap_is, and_is, or_is, xor_is, shl_is, bit_is, unsigned_fits}
use Rattle.java_int.proofs.Carries.{sum_bit, bit_mod, carry_same}

pub fits_signed : (a : ℤ) → Fits 32 a → FitsSigned w32 a
fits_signed (pos n) f = record { sfits = omega (arith, ints, f.1) }
fits_signed (negsuc n) f = record { sfits = omega (arith, ints, f.0) }

-- the bits of an int that is given by its bits
signed_fits : (n : ℕ) → n < 2 ^ 32 → FitsSigned w32 (cast_signed w32 n)
unfolding int_wrap
signed_fits n lt =
    let e : n % 2 ^ 32 ≡ n = omega arith in
    subst (FitsSigned w32) (ap (cast_signed w32) e) (SFits-int_wrap w32 (pos n))

pub unsigned_signed : (n : ℕ) → n < 2 ^ 32 → unsigned_of 32 (signed_of 32 n) ≡ n
unsigned_signed n lt =
    ap (unsigned_of 32) (sym (signed_is n lt)) ∙ sym (unsigned_is (cast_signed w32 n) (signed_fits n lt)) ∙ of_z-to_z w32 n lt

signed_bit : (n at : ℕ) → n < 2 ^ 32 → bit_of (signed_of 32 n) at ≡ bit_at n at
signed_bit n at lt = ap (λ m. bit_at m at) (unsigned_signed n lt)

-- the bit of an int that wraps
pub wrapped_bit : (z : ℤ) (n at : ℕ) → z ≡ signed_of 32 (n % 2 ^ 32) → at < 32 → bit_of z at ≡ bit_at n at
wrapped_bit z n at e lt =
    ap (λ x. bit_of x at) e ∙ signed_bit (n % 2 ^ 32) at (mod_below n (2 ^ 32) (pow_pos 32)) ∙ bit_mod n at lt

add_is : (a b : ℤ) → FitsSigned w32 a → FitsSigned w32 b → add_of a b ≡ signed_of 32 ((unsigned_of 32 a + unsigned_of 32 b) % 2 ^ 32)
add_is a b f g =
    sym (wrapping_add_is w32 a b f g ∙ wrap_is (a +ℤ b))
    ∙ signed_is ((cast_unsigned w32 a + cast_unsigned w32 b) % 2 ^ 32) (mod_below _ (2 ^ 32) (pow_pos 32))
    ∙ ap₂ (λ x y. signed_of 32 ((x + y) % 2 ^ 32)) (unsigned_is a f) (unsigned_is b g)

pub sum_bits : (a b : ℤ) (at : ℕ) → Fits 32 a → Fits 32 b → at < 32 →
    bit_of (add_of a b) at ≡ (bit_of a at + bit_of b at + carry_of 0 (bit_of a) (bit_of b) at) % 2
sum_bits a b at f g lt =
    let n : unsigned_of 32 a + unsigned_of 32 b ≡ unsigned_of 32 a + unsigned_of 32 b + 0 = omega arith in
    wrapped_bit (add_of a b) (unsigned_of 32 a + unsigned_of 32 b) at (add_is a b (fits_signed a f) (fits_signed b g)) lt
    ∙ ap (λ m. bit_at m at) n ∙ sum_bit (unsigned_of 32 a) (unsigned_of 32 b) 0 at

sub_is : (a b : ℤ) → FitsSigned w32 a → FitsSigned w32 b → sub_of a b ≡ signed_of 32 ((unsigned_of 32 a + (2 ^ 32 - unsigned_of 32 b)) % 2 ^ 32)
sub_is a b f g =
    sym (wrapping_sub_is w32 a b f g ∙ wrap_is (a -ℤ b))
    ∙ signed_is ((cast_unsigned w32 a + (2 ^ 32 - cast_unsigned w32 b)) % 2 ^ 32) (mod_below _ (2 ^ 32) (pow_pos 32))
    ∙ ap₂ (λ x y. signed_of 32 ((x + (2 ^ 32 - y)) % 2 ^ 32)) (unsigned_is a f) (unsigned_is b g)

opposite_bit : (b : ℤ) (k : ℕ) → k < 32 → bit_at (bit_not w32 (unsigned_of 32 b)) k ≡ opposite (bit_of b k)
opposite_bit b k lt = bit_at_not w32 (unsigned_of 32 b) k (unsigned_lt 32 b) lt

pub difference_bits : (a b : ℤ) (at : ℕ) → Fits 32 a → Fits 32 b → at < 32 →
    bit_of (sub_of a b) at ≡ (bit_of a at + opposite (bit_of b at) + carry_of 1 (bit_of a) (λ k. opposite (bit_of b k)) at) % 2
difference_bits a b at f g lt =
    let u = unsigned_of 32 a in
    let v = bit_not w32 (unsigned_of 32 b) in
    let n : u + (2 ^ 32 - unsigned_of 32 b) ≡ u + v + 1 = omega (arith, unsigned_lt 32 b) in
    wrapped_bit (sub_of a b) (u + (2 ^ 32 - unsigned_of 32 b)) at (sub_is a b (fits_signed a f) (fits_signed b g)) lt
    ∙ ap (λ m. bit_at m at) n ∙ sum_bit u v 1 at
    ∙ ap₂ (λ x c. (bit_of a at + x + c) % 2) (opposite_bit b at lt)
    (carry_same 1 (bit_of a) (bit_at v) (bit_of a) (λ k. opposite (bit_of b k)) at (λ k h. refl) (λ k h. opposite_bit b k (omega (arith, h, lt))))

neg_is : (a : ℤ) → FitsSigned w32 a → neg_of a ≡ signed_of 32 ((2 ^ 32 - unsigned_of 32 a) % 2 ^ 32)
neg_is a f =
    sym (wrapping_neg_is w32 a f ∙ wrap_is (neg_ℤ a))
    ∙ signed_is ((2 ^ 32 - cast_unsigned w32 a) % 2 ^ 32) (mod_below _ (2 ^ 32) (pow_pos 32))
    ∙ ap (λ x. signed_of 32 ((2 ^ 32 - x) % 2 ^ 32)) (unsigned_is a f)

pub negation_bits : (a : ℤ) (at : ℕ) → Fits 32 a → at < 32 →
    bit_of (neg_of a) at ≡ (opposite (bit_of a at) + carry_of 1 (λ k. opposite (bit_of a k)) (λ _. 0) at) % 2
negation_bits a at f lt =
    let v = bit_not w32 (unsigned_of 32 a) in
    let n : 2 ^ 32 - unsigned_of 32 a ≡ v + 0 + 1 = omega (arith, unsigned_lt 32 a) in
    let x : bit_at v at + bit_at 0 at ≡ opposite (bit_of a at) = omega (arith, opposite_bit a at lt, bit_at-zero at) in
    wrapped_bit (neg_of a) (2 ^ 32 - unsigned_of 32 a) at (neg_is a (fits_signed a f)) lt
    ∙ ap (λ m. bit_at m at) n ∙ sum_bit v 0 1 at
    ∙ ap₂ (λ y c. (y + c) % 2) x
    (carry_same 1 (bit_at v) (bit_at 0) (λ k. opposite (bit_of a k)) (λ _. 0) at (λ k h. opposite_bit a k (omega (arith, h, lt))) (λ k h. bit_at-zero k))

-- the bit of a result that is given by its bits
given_bit : (z : ℤ) (n at : ℕ) → cast_signed w32 n ≡ z → n < 2 ^ 32 → bit_of z at ≡ bit_at n at
given_bit z n at e lt = ap (λ x. bit_of x at) (sym e ∙ signed_is n lt) ∙ signed_bit n at lt

pub logic_bits : (a b : ℤ) (at : ℕ) → Fits 32 a → Fits 32 b →
    (bit_of (and_of a b) at ≡ min (bit_of a at) (bit_of b at)) ×
    (bit_of (or_of a b) at ≡ max (bit_of a at) (bit_of b at)) ×
    (bit_of (xor_of a b) at ≡ (bit_of a at + bit_of b at) % 2)
logic_bits a b at f g =
    let u = cast_unsigned w32 a in
    let v = cast_unsigned w32 b in
    let fa = fits_signed a f in
    let fb = fits_signed b g in
    let lu = unsigned_fits a fa in
    let lv = unsigned_fits b fb in (
      given_bit (and_of a b) (bit_and u v) at (and_is a b fa fb) (omega (arith, and_le_l u v, lu)) ∙ bit_at_and u v at ∙ ap₂ min (bit_is a fa at) (bit_is b fb at),
      given_bit (or_of a b) (bit_or u v) at (or_is a b fa fb) (or_lt 32 u v lu lv) ∙ bit_at_or u v at ∙ ap₂ max (bit_is a fa at) (bit_is b fb at),
      given_bit (xor_of a b) (bit_xor u v) at (xor_is a b fa fb) (xor_lt 32 u v lu lv) ∙ bit_at_xor u v at ∙ ap₂ (λ x y. (x + y) % 2) (bit_is a fa at) (bit_is b fb at),
    )

pub no_high_bits : (a : ℤ) (at : ℕ) → 32 ≤ at → bit_of a at ≡ 0
no_high_bits a at le = bit_at_above (unsigned_of 32 a) 32 at (unsigned_lt 32 a) le

pub unsigned_shift_bits : (a b : ℤ) (at : ℕ) → bit_of (ushr_of a b) at ≡ bit_of a (at + distance_of b)
unsigned_shift_bits a b at =
    let u = unsigned_of 32 a in
    let d = distance_of b in
    let lt : u / 2 ^ d < 2 ^ 32 = omega (arith, shr_le u d, unsigned_lt 32 a) in
    let e : d + at ≡ at + d = omega arith in
    signed_bit (u / 2 ^ d) at lt ∙ ap (λ n. n % 2) (shr-shr u d at) ∙ ap (λ k. u / 2 ^ k % 2) e

pub left_shift_bits : (a b : ℤ) (at : ℕ) → Fits 32 a → Fits 32 b → at < 32 →
    (at < distance_of b → bit_of (shl_of a b) at ≡ 0) × (distance_of b ≤ at → bit_of (shl_of a b) at ≡ bit_of a (at - distance_of b))
left_shift_bits a b at f g lt =
    let u = unsigned_of 32 a in
    let d = distance_of b in
    let fa = fits_signed a f in
    let fb = fits_signed b g in
    let is : shl_of a b ≡ signed_of 32 ((u * 2 ^ d) % 2 ^ 32) =
    sym (shl_is a b fa fb)
    ∙ signed_is ((cast_unsigned w32 a * 2 ^ (cast_unsigned w32 b % 32)) % 2 ^ 32) (mod_below _ (2 ^ 32) (pow_pos 32))
    ∙ ap₂ (λ x y. signed_of 32 ((x * 2 ^ (y % 32)) % 2 ^ 32)) (unsigned_is a fa) (unsigned_is b fb) in
    let there = wrapped_bit (shl_of a b) (u * 2 ^ d) at is lt in
    let more : u * 2 ^ d ≡ u * 2 ^ d + 0 = omega arith in
    let same = there ∙ ap (λ m. bit_at m at) more in (
      (λ below. same ∙ bit_at_cat_low u d 0 at below ∙ bit_at-zero at),
      (λ above. same ∙ bit_at_cat_high u d 0 at (pow_pos d) above),
    )

pub equal_bits : (a b : ℤ) → Fits 32 a → Fits 32 b → ((at : ℕ) → at < 32 → bit_of a at ≡ bit_of b at) → a ≡ b
equal_bits a b f g same =
    let fa = fits_signed a f in
    let fb = fits_signed b g in
    let e = same_from_bits_below 32 (unsigned_of 32 a) (unsigned_of 32 b) (unsigned_lt 32 a) (unsigned_lt 32 b) same in
    sym (to_z-of_z w32 a fa) ∙ ap (cast_signed w32) (unsigned_is a fa ∙ e ∙ sym (unsigned_is b fb)) ∙ to_z-of_z w32 b fb
