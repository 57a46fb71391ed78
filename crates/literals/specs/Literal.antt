-- Literals as numbers: those of the variable v are 2v, the positive one, and 2v + 1, the negative one.
use Rattle.std.specs.Prelude.{ℕ, ◌+◌, ◌-◌, ◌*◌, ◌/◌, ◌%◌, Bool, ◌==◌, if◌then◌else◌}

abbrev pub positive_of : ℕ → ℕ
positive_of variable = 2 * variable

abbrev pub negative_of : ℕ → ℕ
negative_of variable = 2 * variable + 1

unfoldable pub variable_of : ℕ → ℕ
variable_of literal = literal / 2

unfoldable pub is_positive : ℕ → Bool
is_positive literal = literal % 2 == 0

-- the other literal of the variable
unfoldable pub opposite_of : ℕ → ℕ
opposite_of literal = if literal % 2 == 0 then literal + 1 else literal - 1
