-- How many handles are in use.
use Rattle.std.specs.Prelude.{ℕ, List, None, Option, Some, sum_by}

abbrev pub one_if_used : Option (List ℕ) → ℕ
one_if_used None = 0
one_if_used (Some literals) = 1

abbrev pub in_use : List (Option (List ℕ)) → ℕ
in_use clauses = sum_by one_if_used clauses
