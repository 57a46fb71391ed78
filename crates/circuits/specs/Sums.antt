-- The circuits of sums: inner bit B is the carry into place B.
use Rattle.std.specs.Prelude.{ℕ, zero, suc, ℤ, Bool, true, false, nat_eq}
use Rattle.java_int.specs.JavaInt.{bit_of}
use Rattle.circuits.specs.declared.gate.Gate.{Gate}
use Rattle.circuits.specs.declared.gate.Gate.TheVariants.{Constant, Two, Three}
use Rattle.circuits.specs.declared.gate.Pair.{Pair}
use Rattle.circuits.specs.declared.gate.Pair.TheVariants.{And, Or, Xor, Equal}
use Rattle.circuits.specs.declared.gate.Triple.TheVariants.{Sum, Majority}
use Rattle.circuits.specs.declared.gate.Wire.TheVariants.{LocalBit}
use Rattle.circuits.specs.Gates.{inner, lower, not_upper, plain, upper}

-- whether a bit of an int is 1
abbrev pub is_set : ℤ → ℕ → Bool
is_set z bit = nat_eq (bit_of z bit) 1

-- ---- Two operands

abbrev pub add_inner : ℕ → Gate
add_inner zero = Constant false
add_inner (suc bit) = Three Majority (lower bit) (upper bit) (inner bit)

abbrev pub add_result : ℕ → Gate
add_result bit = Three Sum (lower bit) (upper bit) (inner bit)

-- a difference adds the opposite bits, and one
abbrev pub sub_inner : ℕ → Gate
sub_inner zero = Constant true
sub_inner (suc bit) = Three Majority (lower bit) (not_upper bit) (inner bit)

abbrev pub sub_result : ℕ → Gate
sub_result bit = Three Sum (lower bit) (not_upper bit) (inner bit)

-- ---- One operand

-- so does a negation, to 0
abbrev pub neg_inner : ℕ → Gate
neg_inner zero = Constant true
neg_inner (suc bit) = Two And (not_upper bit) (inner bit)

abbrev pub neg_result : ℕ → Gate
neg_result bit = Two Xor (not_upper bit) (inner bit)

-- how a known bit is added to another bit and the carry: what is carried on
abbrev pub carried : Bool → Pair
carried false = And
carried true = Or

-- and what stands in the place
abbrev pub added : Bool → Pair
added false = Xor
added true = Equal

-- a known int is added to a local
abbrev pub increment_inner : ℤ → ℕ → ℕ → Gate
increment_inner delta local zero = Constant false
increment_inner delta local (suc bit) = Two (carried (is_set delta bit)) (plain (LocalBit local bit)) (inner bit)

abbrev pub increment_result : ℤ → ℕ → ℕ → Gate
increment_result delta local bit = Two (added (is_set delta bit)) (plain (LocalBit local bit)) (inner bit)
