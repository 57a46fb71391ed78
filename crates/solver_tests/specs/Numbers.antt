-- The numbers of variables by which tests name them.
use Rattle.std.specs.Prelude.{ℕ, ◌≤◌, All, List, [], ◌∷◌}
use Rattle.var_names.specs.declared.args.Arg.{Arg}
use Rattle.var_names.specs.declared.args.Arg.TheVariants.{Number, D}
use Rattle.var_names.specs.declared.var.Lit.{Lit}

abbrev pub number_in : Arg → ℕ
number_in (Number n) = n
number_in D = 0

-- the second argument
abbrev pub number_of : List Arg → ℕ
number_of [] = 0
number_of (first ∷ []) = 0
number_of (first ∷ second ∷ rest) = number_in second

-- no literal is of a variable with a higher number
abbrev pub HaveNumbersUpto : List Lit → ℕ → Type 0
HaveNumbersUpto literals last = All (λ literal. number_of literal.var.args ≤ last) literals
