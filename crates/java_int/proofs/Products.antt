-- The law of a product by its bits.
use Rattle.std.proofs.Common.{◌≡◌, ◌<◌, ◌+◌, ◌*◌, ◌/◌, ◌%◌, ◌^◌, ℕ, zero, suc, sym, ap, ap₂, ◌∙◌, arith, w32}
use Rattle.std.specs.Prelude.{ℤ}
use Rattle.std.specs.Int.{bit_at, cast_unsigned}
use Rattle.std.proofs.lemmas.Nat.{pow_pos, mod_below, div-add-mod'}
use Rattle.std.proofs.lemmas.Nat.Bits.{bit_at_cat_low}
use Rattle.java_int.specs.JavaInt.{Fits, unsigned_of, signed_of, bit_of, mul_of}
use Rattle.java_int.specs.BitLaws.{product_of_low}
use Rattle.java_int.proofs.Wraps.{signed_is, unsigned_is, mul_is}
use Rattle.java_int.proofs.Carries.{low_more}
use Rattle.java_int.proofs.IntBits.{fits_signed, wrapped_bit}

rows_are : (a b : ℤ) (at : ℕ) → product_of_low a b at ≡ unsigned_of 32 a * (unsigned_of 32 b % 2 ^ at)
rows_are a b zero = let e : unsigned_of 32 b % 1 ≡ 0 = omega (arith, mod_below (unsigned_of 32 b) 1 (omega arith)) in omega (arith, ap (λ n. unsigned_of 32 a * n) e)
rows_are a b (suc at) =
    let u = unsigned_of 32 a in
    let v = unsigned_of 32 b in
    let more = ap (λ n. u * n) (low_more v at) in
    omega (arith, rows_are a b at, more)

pub product_bits : (a b : ℤ) (at : ℕ) → Fits 32 a → Fits 32 b → at < 32 → bit_of (mul_of a b) at ≡ product_of_low a b (suc at) / 2 ^ at % 2
product_bits a b at f g lt =
    let u = unsigned_of 32 a in
    let v = unsigned_of 32 b in
    let fa = fits_signed a f in
    let fb = fits_signed b g in
    let is : mul_of a b ≡ signed_of 32 ((u * v) % 2 ^ 32) =
    sym (mul_is a b fa fb)
    ∙ signed_is ((cast_unsigned w32 a * cast_unsigned w32 b) % 2 ^ 32) (mod_below _ (2 ^ 32) (pow_pos 32))
    ∙ ap₂ (λ x y. signed_of 32 ((x * y) % 2 ^ 32)) (unsigned_is a fa) (unsigned_is b fb) in
    let parts : u * v ≡ (u * (v / 2 ^ suc at)) * 2 ^ suc at + u * (v % 2 ^ suc at) = omega (arith, ap (λ n. u * n) (div-add-mod' v (2 ^ suc at))) in
    wrapped_bit (mul_of a b) (u * v) at is lt
    ∙ ap (λ n. bit_at n at) parts
    ∙ bit_at_cat_low (u * (v / 2 ^ suc at)) (suc at) (u * (v % 2 ^ suc at)) at (omega arith)
    ∙ ap (λ n. bit_at n at) (sym (rows_are a b (suc at)))
