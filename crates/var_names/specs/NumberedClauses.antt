-- Clauses whose literals stand as numbers.
use Rattle.std.specs.Prelude.{◌++◌, ◌*◌, ◌<◌, ◌≡◌, ◌≢◌, ℕ, All, AllPairs, length, List, [], ◌∷◌, map}
use Rattle.var_names.specs.declared.formula.NumberedClause.{NumberedClause}
use Rattle.var_names.specs.declared.rule.Rule.{Rule}
use Rattle.var_names.specs.declared.var.Lit.{Lit}
use Rattle.var_names.specs.Formulas.{literals_of, RuledClause}
use Rattle.var_names.specs.LiteralNumbers.{AddsVariables, AreNumbers, lit_of}
use Rattle.var_names.specs.Variables.{Variable}

abbrev pub ruled_clause : List Variable → NumberedClause → RuledClause
ruled_clause variables clause = record { rule = clause.rule; literals = map (lit_of variables) clause.numbers }

abbrev pub ruled_clauses : List Variable → List NumberedClause → List RuledClause
ruled_clauses variables clauses = map (ruled_clause variables) clauses

-- the numbers are those of variables, no two of a clause are equal, and each variable stands where it first appears
pub record IsNumbered (variables : List Variable) (clauses : List NumberedClause) : Type 0 where
  pub below : All (λ clause. All (λ n. n < 2 * length variables) clause.numbers) clauses
  pub apart : All (λ clause. AllPairs ◌≢◌ clause.numbers) clauses
  pub named : AddsVariables [] (literals_of (ruled_clauses variables clauses)) variables

-- a clause was added at the end
pub record AppendsNumbered (old_variables : List Variable) (old : List NumberedClause) (literals : List Lit) (rule : Rule)
    (variables : List Variable) (new : List NumberedClause) : Type 0 where
  pub numbers : List ℕ
  pub clauses : new ≡ old ++ record { rule = rule; numbers = numbers } ∷ []
  pub numbered : AreNumbers variables literals numbers
  pub added : AddsVariables old_variables literals variables
