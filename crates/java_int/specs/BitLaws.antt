-- What the operations do to the bits of ints: the statements of the functions of the module `laws`.
use Rattle.std.specs.Prelude.{◌≡◌, ℕ, zero, suc, ℤ, ◌+◌, ◌-◌, ◌/◌, ◌%◌, ◌<◌, ◌≤◌, ◌*◌, ◌^◌, ◌<ℤ◌, min, max, ◌==◌, if◌then◌else◌, ◌↔◌}
use Rattle.java_int.specs.JavaInt.{Fits, unsigned_of, bit_of, add_of, mul_of, sub_of, neg_of, and_of, or_of, xor_of, distance_of, shl_of, shr_of, ushr_of, to_byte_of, to_char_of, to_short_of}

-- what a sum of bits carries into a place, when this is carried into place 0
abbrev pub carry_of : ℕ → (ℕ → ℕ) → (ℕ → ℕ) → ℕ → ℕ
carry_of first x y zero = first
carry_of first x y (suc at) = (x at + y at + carry_of first x y at) / 2

-- the other bit
abbrev pub opposite : ℕ → ℕ
opposite bit = 1 - bit

-- a bit of a sum is that of the bits and the carry
abbrev pub SumBits : Type 0
SumBits = (a b : ℤ) (at : ℕ) → Fits 32 a → Fits 32 b → at < 32 →
    bit_of (add_of a b) at ≡ (bit_of a at + bit_of b at + carry_of 0 (bit_of a) (bit_of b) at) % 2

-- a difference is a sum with the opposite bits of the second, and a carry into place 0
abbrev pub DifferenceBits : Type 0
DifferenceBits = (a b : ℤ) (at : ℕ) → Fits 32 a → Fits 32 b → at < 32 →
    bit_of (sub_of a b) at ≡ (bit_of a at + opposite (bit_of b at) + carry_of 1 (bit_of a) (λ k. opposite (bit_of b k)) at) % 2

-- a negation has the opposite bits, and a carry into place 0
abbrev pub NegationBits : Type 0
NegationBits = (a : ℤ) (at : ℕ) → Fits 32 a → at < 32 →
    bit_of (neg_of a) at ≡ (opposite (bit_of a at) + carry_of 1 (λ k. opposite (bit_of a k)) (λ _. 0) at) % 2

-- both, either, one of the two
abbrev pub LogicBits : Type 0
LogicBits = (a b : ℤ) (at : ℕ) → Fits 32 a → Fits 32 b →
    (bit_of (and_of a b) at ≡ min (bit_of a at) (bit_of b at)) ×
    (bit_of (or_of a b) at ≡ max (bit_of a at) (bit_of b at)) ×
    (bit_of (xor_of a b) at ≡ (bit_of a at + bit_of b at) % 2)

-- a shift to the left puts 0 below the distance, and above it the bits from 0 on
abbrev pub LeftShiftBits : Type 0
LeftShiftBits = (a b : ℤ) (at : ℕ) → Fits 32 a → Fits 32 b → at < 32 →
    (at < distance_of b → bit_of (shl_of a b) at ≡ 0) ×
    (distance_of b ≤ at → bit_of (shl_of a b) at ≡ bit_of a (at - distance_of b))

-- a shift to the right brings the bits from the distance on, and the sign's where there are none
abbrev pub RightShiftBits : Type 0
RightShiftBits = (a b : ℤ) (at : ℕ) → Fits 32 a → at < 32 → bit_of (shr_of a b) at ≡ bit_of a (min (at + distance_of b) 31)

-- the unsigned shift brings 0 where there are none: bit_of is 0 from place 32 on
abbrev pub UnsignedShiftBits : Type 0
UnsignedShiftBits = (a b : ℤ) (at : ℕ) → bit_of (ushr_of a b) at ≡ bit_of a (at + distance_of b)

abbrev pub NoHighBits : Type 0
NoHighBits = (a : ℤ) (at : ℕ) → 32 ≤ at → bit_of a at ≡ 0

-- a narrowing keeps the low bits, and repeats the sign's or puts 0 above them
abbrev pub NarrowingBits : Type 0
NarrowingBits = (a : ℤ) (at : ℕ) → Fits 32 a → at < 32 →
    (bit_of (to_byte_of a) at ≡ bit_of a (min at 7)) ×
    (bit_of (to_short_of a) at ≡ bit_of a (min at 15)) ×
    (at < 16 → bit_of (to_char_of a) at ≡ bit_of a at) ×
    (16 ≤ at → bit_of (to_char_of a) at ≡ 0)

-- ints with the same bits are equal
abbrev pub EqualBits : Type 0
EqualBits = (a b : ℤ) → Fits 32 a → Fits 32 b → ((at : ℕ) → at < 32 → bit_of a at ≡ bit_of b at) → a ≡ b

-- the unsigned product by the low bits of the second, one row for each bit
abbrev pub product_of_low : ℤ → ℤ → ℕ → ℕ
product_of_low a b zero = 0
product_of_low a b (suc at) = product_of_low a b at + bit_of b at * (unsigned_of 32 a * 2 ^ at)

-- a bit of a product is that of the rows up to it
abbrev pub ProductBits : Type 0
ProductBits = (a b : ℤ) (at : ℕ) → Fits 32 a → Fits 32 b → at < 32 →
    bit_of (mul_of a b) at ≡ product_of_low a b (suc at) / 2 ^ at % 2

-- 1 where the bits of the first below a place are those of the lesser number, else 0
abbrev pub lesser_of : (ℕ → ℕ) → (ℕ → ℕ) → ℕ → ℕ
lesser_of x y zero = 0
lesser_of x y (suc at) = if (x at == y at) then lesser_of x y at else y at

-- an int is below another by the other bits where the signs are equal, and by its own sign else
abbrev pub LessBits : Type 0
LessBits = (a b : ℤ) → Fits 32 a → Fits 32 b →
    (a <ℤ b) ↔ ((if (bit_of a 31 == bit_of b 31) then lesser_of (bit_of a) (bit_of b) 31 else bit_of a 31) ≡ 1)

-- an int has this many bits where all bits from the last of them on are equal
abbrev pub FitsBits : Type 0
FitsBits = (width : ℕ) (a : ℤ) → Fits 32 a → 1 ≤ width → width ≤ 32 →
    Fits width a ↔ ((at : ℕ) → width ≤ at → at < 32 → bit_of a at ≡ bit_of a (width - 1))
