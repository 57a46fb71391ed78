-- The laws on bits that repeat an int's sign.
use Rattle.std.proofs.Common.{◌≡◌, ◌<◌, ◌≤◌, ◌+◌, ◌-◌, ◌*◌, ◌/◌, ◌%◌, ◌^◌, ℕ, suc, min, cond, lt-ltb, le-ltb, refl, sym, ap, subst, ◌∙◌, arith, w32, inl, inr}
use Rattle.std.specs.Prelude.{ℤ, pos, negsuc, ◌-ℤ◌}
use Rattle.std.specs.Int.{bit_at}
use Rattle.std.proofs.lemmas.Bool.{cases_lt}
use Rattle.std.proofs.lemmas.Int.{ints}
use Rattle.std.proofs.lemmas.Nat.{pow_pos, mod_below, shr-shr, shr_le, div-add-mod'}
use Rattle.std.proofs.lemmas.Nat.Bits.{bit_at_not, bit_at_above, bit_at_cat_low, bit_at-lt}
use Rattle.java_int.specs.JavaInt.{Fits, signed_of, wrapped, bit_of, distance_of, shr_of, to_byte_of, to_char_of, to_short_of}
use Rattle.java_int.proofs.Carries.{bit_mod}

-- the bits of a negative int are the opposite of those of the number below its size
pub neg_bit : (x at : ℕ) → x < 2 ^ 32 → at < 32 → bit_of (negsuc x) at ≡ 1 - bit_at x at
neg_bit x at small lt =
    let e : x % 2 ^ 32 ≡ x = omega arith in
    ap (λ n. bit_at (2 ^ 32 - 1 - n) at) e ∙ bit_at_not w32 x at small lt

-- where the sign's bit is 0, all above are
shift_bit : (n d at : ℕ) → n < 2 ^ 31 → bit_at (n / 2 ^ d) at ≡ bit_at n (min (at + d) 31)
shift_bit n d at small =
    let e : d + at ≡ at + d = omega arith in
    let moved : bit_at (n / 2 ^ d) at ≡ bit_at n (at + d) = ap (λ m. m % 2) (shr-shr n d at) ∙ ap (bit_at n) e in
    elim (cases_lt (at + d) 32) [
      | inl lt ↦ (let least : at + d ≡ min (at + d) 31 = omega arith in moved ∙ ap (bit_at n) least)
      | inr ge ↦ (let least : 31 ≡ min (at + d) 31 = omega arith in
          moved ∙ bit_at_above n 31 (at + d) small (omega arith) ∙ sym (bit_at_above n 31 31 small (omega arith)) ∙ ap (bit_at n) least)
    ]

pub right_shift_bits : (a b : ℤ) (at : ℕ) → Fits 32 a → at < 32 → bit_of (shr_of a b) at ≡ bit_of a (min (at + distance_of b) 31)
right_shift_bits (pos n) b at f lt =
    let small : n < 2 ^ 31 = omega (arith, ints, f.1) in
    bit_mod (n / 2 ^ distance_of b) at lt ∙ shift_bit n (distance_of b) at small ∙ sym (bit_mod n (min (at + distance_of b) 31) (omega arith))
right_shift_bits (negsuc n) b at f lt =
    let small : n < 2 ^ 31 = omega (arith, ints, f.0) in
    neg_bit (n / 2 ^ distance_of b) at (omega (arith, small, shr_le n (distance_of b))) lt
    ∙ ap (λ x. 1 - x) (shift_bit n (distance_of b) at small)
    ∙ sym (neg_bit n (min (at + distance_of b) 31) (omega (arith, small)) (omega arith))

signed_small : (width n : ℕ) → n < 2 ^ (width - 1) → signed_of width n ≡ pos n
signed_small width n lt = ap (λ b. cond b (pos n) (pos n -ℤ pos (2 ^ width))) (lt-ltb n (2 ^ (width - 1)) lt)

signed_big : (width n : ℕ) → 2 ^ (width - 1) ≤ n → n < 2 ^ width → signed_of width n ≡ negsuc (2 ^ width - 1 - n)
signed_big width n le lt =
    let e : pos n -ℤ pos (2 ^ width) ≡ negsuc (2 ^ width - 1 - n) = omega (arith, ints) in
    ap (λ b. cond b (pos n) (pos n -ℤ pos (2 ^ width))) (le-ltb n (2 ^ (width - 1)) le) ∙ e

-- the low bits of what is left modulo a power, and of its opposite
low_bit : (width x at : ℕ) → at < width → bit_at (x % 2 ^ width) at ≡ bit_at x at
low_bit width x at lt =
    sym (bit_at_cat_low (x / 2 ^ width) width (x % 2 ^ width) at lt) ∙ ap (λ m. bit_at m at) (div-add-mod' x (2 ^ width))

opposite_low : (width rest r at : ℕ) → rest * 2 ^ width + 2 ^ width ≡ 2 ^ 32 → width ≤ 32 → r < 2 ^ width → at < width →
    bit_at (2 ^ width - 1 - r) at ≡ 1 - bit_at r at
opposite_low width rest r at whole le small lt =
    let e : rest * 2 ^ width + (2 ^ width - 1 - r) ≡ 2 ^ 32 - 1 - r = omega (arith, whole, small) in
    sym (bit_at_cat_low rest width (2 ^ width - 1 - r) at lt) ∙ ap (λ m. bit_at m at) e
    ∙ bit_at_not w32 r at (omega (arith, whole, small)) (omega (arith, lt, le))

-- the low bits with the highest of them repeated: by what is left, or by its opposite
extended_small : (width high x at : ℕ) → suc high ≡ width → x % 2 ^ width < 2 ^ high → bit_at (x % 2 ^ width) at ≡ bit_at x (min at high)
extended_small width high x at next small =
    elim (cases_lt at width) [
      | inl lt ↦ (let least : at ≡ min at high = omega (arith, next) in low_bit width x at lt ∙ ap (bit_at x) least)
      | inr ge ↦ (let least : high ≡ min at high = omega (arith, next) in
          bit_at_above (x % 2 ^ width) high at small (omega (arith, next))
          ∙ sym (bit_at_above (x % 2 ^ width) high high small (omega arith))
          ∙ low_bit width x high (omega (arith, next)) ∙ ap (bit_at x) least)
    ]

extended_big : (width high rest x at : ℕ) → suc high ≡ width → width ≤ 32 → rest * 2 ^ width + 2 ^ width ≡ 2 ^ 32 → 2 ^ width ≡ 2 ^ high + 2 ^ high →
    2 ^ high ≤ x % 2 ^ width → 1 - bit_at (2 ^ width - 1 - x % 2 ^ width) at ≡ bit_at x (min at high)
extended_big width high rest x at next le whole twice big =
    let r = x % 2 ^ width in
    let small : r < 2 ^ width = mod_below x (2 ^ width) (pow_pos width) in
    let s : 2 ^ width - 1 - r < 2 ^ high = omega (arith, big, twice, small) in
    elim (cases_lt at width) [
      | inl lt ↦ (let least : at ≡ min at high = omega (arith, next) in
          let e : 1 - bit_at (2 ^ width - 1 - r) at ≡ bit_at r at = omega (arith, opposite_low width rest r at whole le small lt, bit_at-lt r at) in
          e ∙ low_bit width x at lt ∙ ap (bit_at x) least)
      | inr ge ↦ (let least : high ≡ min at high = omega (arith, next) in
          let inside : high < width = omega (arith, next) in
          let e : 1 - bit_at (2 ^ width - 1 - r) at ≡ bit_at r high =
          omega (
            arith,
            opposite_low width rest r high whole le small inside,
            bit_at-lt r high,
            bit_at_above (2 ^ width - 1 - r) high at s (omega (arith, next)),
            bit_at_above (2 ^ width - 1 - r) high high s (omega arith),
          ) in
          e ∙ low_bit width x high inside ∙ ap (bit_at x) least)
    ]

-- a narrowing repeats its highest bit
narrowed_bit : (width high rest : ℕ) (a : ℤ) (at : ℕ) → suc high ≡ width → width - 1 ≡ high → width ≤ 31 → rest * 2 ^ width + 2 ^ width ≡ 2 ^ 32 → 2 ^ width ≡ 2 ^ high + 2 ^ high →
    Fits 32 a → at < 32 → bit_of (wrapped width a) at ≡ bit_of a (min at high)
narrowed_bit width high rest (pos x) at next before le whole twice f lt =
    let r = x % 2 ^ width in
    let small : r < 2 ^ width = mod_below x (2 ^ width) (pow_pos width) in
    let P : ℕ → Type 0 = λ n. 2 ^ n ≡ 2 ^ high in
    let power : 2 ^ (width - 1) ≡ 2 ^ high = subst P (sym before) refl in
    elim (cases_lt r (2 ^ (width - 1))) [
      | inl below ↦ ap (λ z. bit_of z at) (signed_small width r below) ∙ bit_mod r at lt
          ∙ extended_small width high x at next (omega (arith, below, power)) ∙ sym (bit_mod x (min at high) (omega (arith, lt)))
      | inr above ↦ ap (λ z. bit_of z at) (signed_big width r above small) ∙ neg_bit (2 ^ width - 1 - r) at (omega (arith, whole, small)) lt
          ∙ extended_big width high rest x at next (omega (arith, le)) whole twice (omega (arith, above, power)) ∙ sym (bit_mod x (min at high) (omega (arith, lt)))
    ]
narrowed_bit width high rest (negsuc x) at next before le whole twice f lt =
    let r = x % 2 ^ width in
    let small : r < 2 ^ width = mod_below x (2 ^ width) (pow_pos width) in
    let s = 2 ^ width - 1 - r in
    let size : x < 2 ^ 32 = omega (arith, ints, f.0) in
    let P : ℕ → Type 0 = λ n. 2 ^ n ≡ 2 ^ high in
    let power : 2 ^ (width - 1) ≡ 2 ^ high = subst P (sym before) refl in
    let back = sym (neg_bit x (min at high) size (omega (arith, lt))) in
    elim (cases_lt s (2 ^ (width - 1))) [
      | inl below ↦ (let big : 2 ^ high ≤ r = omega (arith, below, power, twice, small) in
          let e : bit_at s at ≡ 1 - bit_at x (min at high) =
          omega (arith, extended_big width high rest x at next (omega (arith, le)) whole twice big, bit_at-lt s at) in
          ap (λ z. bit_of z at) (signed_small width s below) ∙ bit_mod s at lt ∙ e ∙ back)
      | inr above ↦ (let low : r < 2 ^ high = omega (arith, above, power, twice, small) in
          let e : 2 ^ width - 1 - s ≡ r = omega (arith, small) in
          ap (λ z. bit_of z at) (signed_big width s above (omega (arith, small))) ∙ ap (λ n. bit_of (negsuc n) at) e
          ∙ neg_bit r at (omega (arith, whole, small)) lt ∙ ap (λ n. 1 - n) (extended_small width high x at next low) ∙ back)
    ]

char_low : (a : ℤ) (at : ℕ) → Fits 32 a → at < 16 → bit_of (to_char_of a) at ≡ bit_of a at
char_low (pos x) at f lt =
    bit_mod (x % 2 ^ 16) at (omega (arith, lt)) ∙ low_bit 16 x at lt ∙ sym (bit_mod x at (omega (arith, lt)))
char_low (negsuc x) at f lt =
    let r = x % 2 ^ 16 in
    let small : r < 2 ^ 16 = mod_below x (2 ^ 16) (pow_pos 16) in
    bit_mod (2 ^ 16 - 1 - r) at (omega (arith, lt)) ∙ opposite_low 16 65535 r at refl (omega arith) small lt
    ∙ ap (λ n. 1 - n) (low_bit 16 x at lt) ∙ sym (neg_bit x at (omega (arith, ints, f.0)) (omega (arith, lt)))

char_high : (a : ℤ) (at : ℕ) → at < 32 → 16 ≤ at → bit_of (to_char_of a) at ≡ 0
char_high (pos x) at lt ge = bit_mod (x % 2 ^ 16) at lt ∙ bit_at_above (x % 2 ^ 16) 16 at (mod_below x (2 ^ 16) (pow_pos 16)) ge
char_high (negsuc x) at lt ge = bit_mod (2 ^ 16 - 1 - x % 2 ^ 16) at lt ∙ bit_at_above (2 ^ 16 - 1 - x % 2 ^ 16) 16 at (omega arith) ge

pub narrowing_bits : (a : ℤ) (at : ℕ) → Fits 32 a → at < 32 →
    (bit_of (to_byte_of a) at ≡ bit_of a (min at 7)) ×
    (bit_of (to_short_of a) at ≡ bit_of a (min at 15)) ×
    (at < 16 → bit_of (to_char_of a) at ≡ bit_of a at) ×
    (16 ≤ at → bit_of (to_char_of a) at ≡ 0)
narrowing_bits a at f lt = (
  narrowed_bit 8 7 16777215 a at refl refl (omega arith) refl refl f lt,
  narrowed_bit 16 15 65535 a at refl refl (omega arith) refl refl f lt,
  char_low a at f,
  char_high a at lt,
)
