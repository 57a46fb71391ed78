-- The operations on ints, on whole numbers (JLS 4.2.2, JVMS 6.5). An int is a number from -2 ^ 31 to 2 ^ 31 - 1.
use Rattle.std.specs.Prelude.{ℕ, zero, suc, ℤ, pos, neg_ℤ, ◌+◌, ◌-◌, ◌*◌, ◌/◌, ◌%◌, ◌^◌, ◌+ℤ◌, ◌-ℤ◌, ◌*ℤ◌, ◌≤ℤ◌, ◌<ℤ◌, min, max, nat_lt, if◌then◌else◌, unsigned_abs}
use Rattle.std.specs.Int.{int_div_euclid, int_rem_euclid}

-- what is left of a number modulo 2 ^ width, from 0 on
abbrev pub unsigned_of : ℕ → ℤ → ℕ
unsigned_of width z = unsigned_abs (int_rem_euclid z (pos (2 ^ width)))

-- the number that these bits stand for in two's complement
abbrev pub signed_of : ℕ → ℕ → ℤ
signed_of width n = if nat_lt n (2 ^ (width - 1)) then pos n else (pos n -ℤ pos (2 ^ width))

-- the number from -2 ^ (width - 1) to 2 ^ (width - 1) - 1 that is equal to z modulo 2 ^ width
abbrev pub wrapped : ℕ → ℤ → ℤ
wrapped width z = signed_of width (unsigned_of width z)

-- iadd, isub, imul, ineg
abbrev pub add_of : ℤ → ℤ → ℤ
add_of a b = wrapped 32 (a +ℤ b)

abbrev pub sub_of : ℤ → ℤ → ℤ
sub_of a b = wrapped 32 (a -ℤ b)

abbrev pub mul_of : ℤ → ℤ → ℤ
mul_of a b = wrapped 32 (a *ℤ b)

abbrev pub neg_of : ℤ → ℤ
neg_of a = wrapped 32 (neg_ℤ a)

-- the distance of a shift: its low five bits
abbrev pub distance_of : ℤ → ℕ
distance_of b = unsigned_of 32 b % 32

-- ishl, ishr, iushr: the product by a power of two; the quotient, rounded down; the quotient of the unsigned number
abbrev pub shl_of : ℤ → ℤ → ℤ
shl_of a b = wrapped 32 (a *ℤ pos (2 ^ distance_of b))

abbrev pub shr_of : ℤ → ℤ → ℤ
shr_of a b = int_div_euclid a (pos (2 ^ distance_of b))

abbrev pub ushr_of : ℤ → ℤ → ℤ
ushr_of a b = signed_of 32 (unsigned_of 32 a / 2 ^ distance_of b)

-- a bit of an int, from the lowest, 0
abbrev pub bit_of : ℤ → ℕ → ℕ
bit_of a at = unsigned_of 32 a / 2 ^ at % 2

-- the number with these bits below a place
abbrev pub number_of_bits : (ℕ → ℕ) → ℕ → ℕ
number_of_bits bit zero = 0
number_of_bits bit (suc at) = number_of_bits bit at + bit at * 2 ^ at

-- iand, ior, ixor: both, either, one of the two
abbrev pub and_of : ℤ → ℤ → ℤ
and_of a b = signed_of 32 (number_of_bits (λ at. min (bit_of a at) (bit_of b at)) 32)

abbrev pub or_of : ℤ → ℤ → ℤ
or_of a b = signed_of 32 (number_of_bits (λ at. max (bit_of a at) (bit_of b at)) 32)

abbrev pub xor_of : ℤ → ℤ → ℤ
xor_of a b = signed_of 32 (number_of_bits (λ at. (bit_of a at + bit_of b at) % 2) 32)

-- i2b, i2c, i2s
abbrev pub to_byte_of : ℤ → ℤ
to_byte_of a = wrapped 8 a

abbrev pub to_char_of : ℤ → ℤ
to_char_of a = pos (unsigned_of 16 a)

abbrev pub to_short_of : ℤ → ℤ
to_short_of a = wrapped 16 a

-- the number has this many bits in two's complement
abbrev pub Fits : ℕ → ℤ → Type 0
Fits width z = (neg_ℤ (pos (2 ^ (width - 1))) ≤ℤ z) × (z <ℤ pos (2 ^ (width - 1)))
