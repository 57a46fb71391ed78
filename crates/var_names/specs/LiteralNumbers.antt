-- Literals as numbers, by the places of their variables in a list.
use Rattle.std.specs.Prelude.{All, map, length, ◌++◌, ◌%◌, ◌*◌, ◌/◌, ◌<◌, ◌==◌, ◌≡◌, ◌⊎◌, ℕ, List, [], ◌∷◌, Contains, slice_index_or}
use Rattle.var_names.specs.declared.family.Family.TheVariants.{On}
use Rattle.var_names.specs.declared.var.Lit.{Lit}
use Rattle.var_names.specs.Variables.{Variable}

-- what stands past the end of a list of variables
abbrev pub no_variable : Variable
no_variable = record { family = On; args = [] }

-- the literal of a number: the variable at place v is 2v, and its negation 2v + 1
abbrev pub lit_of : List Variable → ℕ → Lit
lit_of variables number = record { var = slice_index_or variables (number / 2) no_variable; positive = number % 2 == 0 }

-- a variable stands in a list, or was added at its end
abbrev pub AddsVariable : List Variable → Variable → List Variable → Type 0
AddsVariable old variable new =
    (Contains old variable × (new ≡ old)) ⊎ (¬ (Contains old variable) × (new ≡ old ++ variable ∷ []))

-- the variables of literals were added, each where it first appears
abbrev pub AddsVariables : List Variable → List Lit → List Variable → Type 0
AddsVariables old [] new = new ≡ old
AddsVariables old (lit ∷ lits) new = (next : List Variable) × AddsVariable old lit.var next × AddsVariables next lits new

-- a list of variables that goes on as another begins
abbrev pub Grown : List Variable → List Variable → Type 0
Grown old new = (more : List Variable) × (new ≡ old ++ more)

-- these are the numbers of the literals
pub record AreNumbers (variables : List Variable) (literals : List Lit) (numbers : List ℕ) : Type 0 where
  pub named : map (lit_of variables) numbers ≡ literals
  pub below : All (λ n. n < 2 * length variables) numbers
