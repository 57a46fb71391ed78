-- The circuit of a product: row T is the lower operand, T places up, where bit T of the upper one is 1; the rows are added one
-- after the other. Inner bit 32 T + B is bit B of row T, 1024 + 32 T + B that of the sum of the rows up to T, and 2048 + 32 T + B
-- what is carried into place B where row T is added.
use Rattle.std.specs.Prelude.{◌+◌, ◌-◌, ◌*◌, ◌/◌, ◌%◌, ℕ, zero, suc, false, cond, nat_eq, nat_lt, Option, Some, None}
use Rattle.circuits.specs.declared.gate.Gate.{Gate}
use Rattle.circuits.specs.declared.gate.Gate.TheVariants.{Constant, Same, Two, Three}
use Rattle.circuits.specs.declared.gate.Input.{Input}
use Rattle.circuits.specs.declared.gate.Pair.TheVariants.{And}
use Rattle.circuits.specs.declared.gate.Triple.TheVariants.{Sum, Majority}
use Rattle.circuits.specs.Gates.{inner, lower, upper}

abbrev pub row_bit : ℕ → ℕ → Input
row_bit t bit = inner (32 * t + bit)

abbrev pub sum_bit : ℕ → ℕ → Input
sum_bit t bit = inner (1024 + 32 * t + bit)

abbrev pub carry_bit : ℕ → ℕ → Input
carry_bit t bit = inner (2048 + 32 * t + bit)

-- a row begins at its place
abbrev pub row_gate : ℕ → ℕ → Option Gate
row_gate t bit = cond (nat_lt bit t) None (Some (Two And (lower (bit - t)) (upper t)))

-- the first sum is the first row; a further row is added to the sum before it
abbrev pub sum_gate : ℕ → ℕ → Option Gate
sum_gate zero bit = Some (Same (row_bit 0 bit))
sum_gate (suc t) bit =
    cond (nat_lt bit (suc t)) None (Some (Three Sum (sum_bit t bit) (row_bit (suc t) bit) (carry_bit (suc t) bit)))

-- nothing is carried into the place where a row begins
abbrev pub carry_on : ℕ → ℕ → Option Gate
carry_on t zero = None
carry_on t (suc bit) =
    cond (nat_lt bit (suc t)) None (Some (Three Majority (sum_bit t bit) (row_bit (suc t) bit) (carry_bit (suc t) bit)))

abbrev pub carry_gate : ℕ → ℕ → Option Gate
carry_gate zero bit = None
carry_gate (suc t) bit = cond (nat_eq bit (suc t)) (Some (Constant false)) (carry_on t bit)

abbrev pub mul_inner : ℕ → Option Gate
mul_inner j =
    cond (nat_lt j 1024) (row_gate (j / 32) (j % 32))
    (cond (nat_lt j 2048) (sum_gate ((j - 1024) / 32) ((j - 1024) % 32)) (carry_gate ((j - 2048) / 32) ((j - 2048) % 32)))

-- a bit of the product is that of the sum of the rows up to its place
abbrev pub mul_result : ℕ → Gate
mul_result bit = Same (sum_bit bit bit)
