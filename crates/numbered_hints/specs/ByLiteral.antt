-- Clauses by number as clauses of literals.
use Rattle.std.specs.Prelude.{◌<◌, ◌≡◌, ℕ, All, List, map, Option, slice_get, Some}
use Rattle.std.specs.Option.{option_map}
use Rattle.var_names.specs.LiteralNumbers.{lit_of}
use Rattle.var_names.specs.Variables.{Variable}
use Rattle.refutation_lines.specs.Propagation.{Clauses}

-- every number of a live clause is below a limit
abbrev pub AreBelow : ℕ → List (Option (List ℕ)) → Type 0
AreBelow limit clauses = (place : ℕ) (clause : List ℕ) → slice_get clauses place ≡ Some (Some clause) → All (λ n. n < limit) clause

-- the clauses of the literals that the numbers mean
abbrev pub literals_of : List Variable → List (Option (List ℕ)) → Clauses
literals_of variables clauses = map (option_map (map (lit_of variables))) clauses
