-- The circuits of shifts: stage T moves by 2 ^ T places where bit T of the upper operand is 1. Inner bit 32 T + B is bit B
-- behind stage T.
use Rattle.std.specs.Prelude.{◌+◌, ◌-◌, ◌*◌, ◌^◌, ◌/◌, ◌%◌, ℕ, zero, suc, cond, min, nat_eq, nat_lt}
use Rattle.circuits.specs.declared.gate.Gate.{Gate}
use Rattle.circuits.specs.declared.gate.Gate.TheVariants.{Same, Two, Three}
use Rattle.circuits.specs.declared.gate.Input.{Input}
use Rattle.circuits.specs.declared.gate.Pair.TheVariants.{And}
use Rattle.circuits.specs.declared.gate.Triple.TheVariants.{Choice}
use Rattle.circuits.specs.Gates.{inner, lower, not_upper, upper}

-- a bit before stage T
abbrev pub before_stage : ℕ → ℕ → Input
before_stage zero bit = lower bit
before_stage (suc t) bit = inner (32 * t + bit)

-- what comes to a place where stage T moves a bit there, or keeps its own
abbrev pub moved : ℕ → ℕ → ℕ → Gate
moved t far bit = Three Choice (upper t) (before_stage t far) (before_stage t bit)

-- where nothing is moved there: its own, or 0
abbrev pub vacated : ℕ → ℕ → Gate
vacated t bit = Two And (not_upper t) (before_stage t bit)

abbrev pub shl_stage : ℕ → ℕ → Gate
shl_stage t bit = cond (nat_lt bit (2 ^ t)) (vacated t bit) (moved t (bit - 2 ^ t) bit)

abbrev pub ushr_stage : ℕ → ℕ → Gate
ushr_stage t bit = cond (nat_lt 31 (bit + 2 ^ t)) (vacated t bit) (moved t (bit + 2 ^ t) bit)

-- the highest bit stays, and is repeated
abbrev pub shr_stage : ℕ → ℕ → Gate
shr_stage t bit =
    cond (nat_eq bit 31) (Same (before_stage t 31)) (moved t (min (bit + 2 ^ t) 31) bit)

abbrev pub shl_inner : ℕ → Gate
shl_inner j = shl_stage (j / 32) (j % 32)

abbrev pub ushr_inner : ℕ → Gate
ushr_inner j = ushr_stage (j / 32) (j % 32)

abbrev pub shr_inner : ℕ → Gate
shr_inner j = shr_stage (j / 32) (j % 32)

-- the result is what is behind the last of five stages
abbrev pub shift_result : ℕ → Gate
shift_result bit = Same (inner (128 + bit))
