-- The circuits of conditional jumps. Inner bit B says of the bits below place B what is asked for.
use Rattle.std.specs.Prelude.{ℕ, zero, suc, true, false, cond, nat_eq}
use Rattle.circuits.specs.declared.gate.Gate.{Gate}
use Rattle.circuits.specs.declared.gate.Gate.TheVariants.{Constant, Two, Three}
use Rattle.circuits.specs.declared.gate.Pair.TheVariants.{And}
use Rattle.circuits.specs.declared.gate.Triple.TheVariants.{StillEqual, Less}
use Rattle.circuits.specs.declared.gate.Wire.TheVariants.{InnerBit}
use Rattle.circuits.specs.Gates.{inner, lower, negated, not_upper, upper}

-- they are 0
abbrev pub zero_inner : ℕ → Gate
zero_inner zero = Constant true
zero_inner (suc bit) = Two And (inner bit) (not_upper bit)

-- the same; and the last one, that the int is above 0
abbrev pub above_zero_inner : ℕ → Gate
above_zero_inner j = cond (nat_eq j 33) (Two And (not_upper 31) (negated (InnerBit 32))) (zero_inner j)

-- they are equal
abbrev pub equal_inner : ℕ → Gate
equal_inner zero = Constant true
equal_inner (suc bit) = Three StillEqual (inner bit) (lower bit) (upper bit)

-- they are less, those of the lower operand; at the sign, the other way round
abbrev pub below_inner : ℕ → Gate
below_inner zero = Constant false
below_inner (suc bit) =
    cond (nat_eq bit 31) (Three Less (upper 31) (lower 31) (inner 31))
    (Three Less (lower bit) (upper bit) (inner bit))

-- they are less, those of the upper operand
abbrev pub above_inner : ℕ → Gate
above_inner zero = Constant false
above_inner (suc bit) =
    cond (nat_eq bit 31) (Three Less (lower 31) (upper 31) (inner 31))
    (Three Less (upper bit) (lower bit) (inner bit))
