-- The definitions on whole numbers and the words of std on the bits of an int.
use Rattle.std.proofs.Common.{◌≡◌, ◌<◌, ◌+◌, ◌*◌, ◌/◌, ◌%◌, ◌^◌, ℕ, zero, suc, min, max, refl, sym, ap, ap₂, subst, ◌∙◌, arith, w32}
use Rattle.std.specs.Prelude.{ℤ, pos, negsuc, ◌*ℤ◌, bit_and, bit_or, bit_xor, FitsSigned}
use Rattle.std.specs.Int.{int_wrap, cast_signed, cast_unsigned, bit_at}
use Rattle.std.proofs.lemmas.Int.{ints, to_z-of_z, wrapping_mul_is, wrapping_mul-bits, int_wrap-mul_right}
use Rattle.std.proofs.lemmas.Nat.{mod-pow-add, pow_pos, pow_below, mod_below, xor_lt, or_lt, and_le_l}
use Rattle.std.proofs.lemmas.Nat.Bits.{bit_at_and, bit_at_or, bit_at_xor}
use Rattle.java_int.specs.JavaInt.{unsigned_of, signed_of, wrapped, bit_of, number_of_bits, and_of, or_of, xor_of, shl_of}

pub signed_is : (n : ℕ) → n < 2 ^ 32 → cast_signed w32 n ≡ signed_of 32 n
signed_is n lt = grind (arith, ints)

pub unsigned_is : (a : ℤ) → FitsSigned w32 a → cast_unsigned w32 a ≡ unsigned_of 32 a
unsigned_is (pos n) f = omega (arith, f.sfits)
unsigned_is (negsuc n) f = omega (arith, f.sfits)

pub unsigned_lt : (width : ℕ) (z : ℤ) → unsigned_of width z < 2 ^ width
unsigned_lt width (pos n) = mod_below n (2 ^ width) (pow_pos width)
unsigned_lt width (negsuc n) = omega (arith, pow_pos width)

pub wrap_is : (z : ℤ) → int_wrap w32 z ≡ wrapped 32 z
unfolding int_wrap
wrap_is z = signed_is (unsigned_of 32 z) (unsigned_lt 32 z)

pub mul_is : (a b : ℤ) → FitsSigned w32 a → FitsSigned w32 b → cast_signed w32 (cast_unsigned w32 a * cast_unsigned w32 b % 2 ^ 32) ≡ wrapped 32 (a *ℤ b)
mul_is a b f g = wrapping_mul_is w32 a b f g ∙ wrap_is (a *ℤ b)

-- a number is that of its bits
bits_below : (n k : ℕ) → number_of_bits (bit_at n) k ≡ n % 2 ^ k
bits_below n zero = omega (arith, mod_below n 1 (omega arith))
bits_below n (suc k) =
    let e : 1 + k ≡ suc k = omega arith in
    let P : ℕ → Type 0 = λ m. n % 2 ^ m ≡ (n / 2 ^ k % 2) * 2 ^ k + n % 2 ^ k in
    let h = subst P e (mod-pow-add n 1 k) in
    omega (arith, bits_below n k, h)

same_bits : (f g : ℕ → ℕ) → ((at : ℕ) → f at ≡ g at) → (k : ℕ) → number_of_bits f k ≡ number_of_bits g k
same_bits f g h zero = refl
same_bits f g h (suc k) = ap₂ (λ x y. x + y * 2 ^ k) (same_bits f g h k) (h k)

pub from_bits : (n : ℕ) (f : ℕ → ℕ) → n < 2 ^ 32 → ((at : ℕ) → bit_at n at ≡ f at) → cast_signed w32 n ≡ signed_of 32 (number_of_bits f 32)
from_bits n f lt h =
    let whole : n ≡ n % 2 ^ 32 = omega arith in
    let e : n ≡ number_of_bits f 32 = whole ∙ sym (bits_below n 32) ∙ same_bits (bit_at n) f h 32 in
    signed_is n lt ∙ ap (signed_of 32) e

pub unsigned_fits : (a : ℤ) → FitsSigned w32 a → cast_unsigned w32 a < 2 ^ 32
unsigned_fits a f = subst (λ n. n < 2 ^ 32) (sym (unsigned_is a f)) (unsigned_lt 32 a)

pub bit_is : (a : ℤ) → FitsSigned w32 a → (at : ℕ) → bit_at (cast_unsigned w32 a) at ≡ bit_of a at
bit_is a f at = ap (λ n. bit_at n at) (unsigned_is a f)

pub and_is : (a b : ℤ) → FitsSigned w32 a → FitsSigned w32 b → cast_signed w32 (bit_and (cast_unsigned w32 a) (cast_unsigned w32 b)) ≡ and_of a b
and_is a b f g = from_bits _ _ (omega (arith, and_le_l (cast_unsigned w32 a) (cast_unsigned w32 b), unsigned_fits a f))
    (λ at. bit_at_and (cast_unsigned w32 a) (cast_unsigned w32 b) at ∙ ap₂ min (bit_is a f at) (bit_is b g at))

pub or_is : (a b : ℤ) → FitsSigned w32 a → FitsSigned w32 b → cast_signed w32 (bit_or (cast_unsigned w32 a) (cast_unsigned w32 b)) ≡ or_of a b
or_is a b f g = from_bits _ _ (or_lt 32 (cast_unsigned w32 a) (cast_unsigned w32 b) (unsigned_fits a f) (unsigned_fits b g))
    (λ at. bit_at_or (cast_unsigned w32 a) (cast_unsigned w32 b) at ∙ ap₂ max (bit_is a f at) (bit_is b g at))

pub xor_is : (a b : ℤ) → FitsSigned w32 a → FitsSigned w32 b → cast_signed w32 (bit_xor (cast_unsigned w32 a) (cast_unsigned w32 b)) ≡ xor_of a b
xor_is a b f g = from_bits _ _ (xor_lt 32 (cast_unsigned w32 a) (cast_unsigned w32 b) (unsigned_fits a f) (unsigned_fits b g))
    (λ at. bit_at_xor (cast_unsigned w32 a) (cast_unsigned w32 b) at ∙ ap₂ (λ x y. (x + y) % 2) (bit_is a f at) (bit_is b g at))

-- a power of two as an int
power_wraps : (k : ℕ) → k < 32 → cast_signed w32 (2 ^ k) ≡ int_wrap w32 (pos (2 ^ k))
unfolding int_wrap
power_wraps k lt =
    let small : 2 ^ k < 2 ^ 32 = pow_below k 32 lt in
    let e : 2 ^ k ≡ 2 ^ k % 2 ^ 32 = omega arith in
    ap (cast_signed w32) e

pub shl_is : (a b : ℤ) → FitsSigned w32 a → FitsSigned w32 b →
    cast_signed w32 ((cast_unsigned w32 a * 2 ^ (cast_unsigned w32 b % 32)) % 2 ^ 32) ≡ shl_of a b
shl_is a b f g =
    let k = cast_unsigned w32 b % 32 in
    let lt : k < 32 = mod_below (cast_unsigned w32 b) 32 (omega arith) in
    let power = power_wraps k lt in
    wrapping_mul-bits w32 (cast_unsigned w32 a) (2 ^ k) (unsigned_fits a f) (pow_below k 32 lt)
    ∙ ap₂ (λ x y. int_wrap w32 (x *ℤ y)) (to_z-of_z w32 a f) power
    ∙ int_wrap-mul_right w32 a (pos (2 ^ k))
    ∙ wrap_is (a *ℤ pos (2 ^ k))
    ∙ ap (λ n. wrapped 32 (a *ℤ pos (2 ^ (n % 32)))) (unsigned_is b g)
