-- Formulas as callers see them: clauses under their rules, and the variables of their literals.
use Rattle.std.specs.Prelude.{◌++◌, ◌≡◌, ◌≢◌, ℕ, AllPairs, List, [], ◌∷◌, slice_get, Some}
use Rattle.std.specs.List.{flat_map}
use Rattle.var_names.specs.declared.rule.Rule.{Rule}
use Rattle.var_names.specs.declared.var.Lit.{Lit}
use Rattle.var_names.specs.LiteralNumbers.{AddsVariables, AreNumbers}
use Rattle.var_names.specs.Variables.{Variable}

-- a clause under its rule
pub record RuledClause : Type 0 where
  pub rule : Rule
  pub literals : List Lit

-- a number of steps, variables, and clauses
pub record FormulaValue : Type 0 where
  pub steps : ℕ
  pub variables : List Variable
  pub clauses : List RuledClause

-- the literals of clauses, one after another
abbrev pub literals_of : List RuledClause → List Lit
literals_of clauses = flat_map (λ clause. clause.literals) clauses

-- a clause was added at the end, and its variables, each where it is new
pub record AppendsClause (old : FormulaValue) (literals : List Lit) (rule : Rule) (new : FormulaValue) : Type 0 where
  pub steps : new.steps ≡ old.steps
  pub clauses : new.clauses ≡ old.clauses ++ record { rule = rule; literals = literals } ∷ []
  pub variables : AddsVariables old.variables literals new.variables

-- these are the numbers of the literals of the clause at a place, no two of them equal
pub record NamesClause (formula : FormulaValue) (at : ℕ) (numbers : List ℕ) : Type 0 where
  pub clause : RuledClause
  pub found : slice_get formula.clauses at ≡ Some clause
  pub numbered : AreNumbers formula.variables clause.literals numbers
  pub apart : AllPairs ◌≢◌ numbers
