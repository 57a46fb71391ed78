-- The clauses of a refutation up to a line, and what was read of the line.
use Rattle.std.specs.Prelude.{◌-◌, ◌*◌, ◌<◌, ◌≡◌, ◌≢◌, ℕ, All, AllPairs, length, List, [], None, Option, slice_set}
use Rattle.var_names.specs.declared.var.Lit.{Lit}
use Rattle.var_names.specs.Variables.{Variable}
use Rattle.refutation_lines.specs.Propagation.{Clauses, IsLive}
use Rattle.numbered_hints.specs.ByLiteral.{AreBelow}

-- the clauses up to a line; of the line, the literals that were read, and those that were made true
pub record TableValue : Type 0 where
  pub clauses : Clauses
  pub literals : List Lit
  pub trues : List Lit

-- nothing of a line was read
abbrev pub ready : Clauses → TableValue
ready clauses = record { clauses = clauses; literals = []; trues = [] }

-- a live clause was taken out
pub record TakesOne (old : TableValue) (number : ℕ) (new : TableValue) : Type 0 where
  pub literals : List Lit
  pub live : IsLive old.clauses number literals
  pub rest : new ≡ record old { clauses = slice_set old.clauses (number - 1) None }

-- no variable stands twice, and all numbers are those of literals of the variables
pub record IsTable (variables : List Variable) (live : List (Option (List ℕ))) (clause marks : List ℕ) : Type 0 where
  pub apart : AllPairs ◌≢◌ variables
  pub known : AreBelow (2 * length variables) live
  pub read : All (λ n. n < 2 * length variables) clause
  pub marked : All (λ n. n < 2 * length variables) marks
