-- Lines that a search puts, and what holds of the clauses that they lead to.
use Rattle.std.specs.Prelude.{◌++◌, ◌+◌, ◌≡◌, ℕ, ⊤, List, [], ◌∷◌, Option, sum_by}
use Rattle.std.specs.List.{flat_map}
use Rattle.ports.specs.Growth.{Grows, GrowsByPrefix}
use Rattle.var_names.specs.Formulas.{FormulaValue}
use Rattle.refutation_lines.specs.declared.line.Line.{Line}
use Rattle.refutation_lines.specs.declared.line.Line.TheVariants.{Instance, Clause, Deletion}
use Rattle.refutation_lines.specs.LineText.{line_bytes}
use Rattle.refutation_lines.specs.Refutations.{EndsAtEmpty, IsEmptyClause}
use Rattle.search_log.specs.Names.{LogValue}
use Rattle.search_log.specs.Lines.{LeadTo}

-- the lines of clauses that were derived
abbrev pub one_if_derived : Line → ℕ
one_if_derived (Instance rule) = 0
one_if_derived (Clause literals hints) = 1
one_if_derived (Deletion numbers) = 0

abbrev pub derived_in : List Line → ℕ
derived_in lines = sum_by one_if_derived lines

-- no line is the clause without literals
abbrev pub NoneEmpty : List Line → Type 0
NoneEmpty [] = ⊤
NoneEmpty (line ∷ lines) = ¬ (IsEmptyClause line) × NoneEmpty lines

-- lines were put that lead from the clauses to others, of which something holds; none of them is the clause without literals
pub record Goes (formula : FormulaValue) (old new : LogValue) (held held' : Option (List ℕ)) (clauses : List (Option (List ℕ))) (Then : List (Option (List ℕ)) → Type 0) : Type 0 where
  pub lines : List Line
  pub after : List (Option (List ℕ))
  pub leads : LeadTo formula clauses lines after
  pub grows : Grows held held' (flat_map line_bytes lines)
  pub none_empty : NoneEmpty lines
  pub derived : new.derived ≡ old.derived + derived_in lines
  pub holds : Then after

-- lines were put that lead from the clauses to the one without literals; so many before it are of clauses that were derived
pub record Closes (formula : FormulaValue) (count : ℕ) (held held' : Option (List ℕ)) (clauses : List (Option (List ℕ))) : Type 0 where
  pub before : List Line
  pub hints : List ℕ
  pub after : List (Option (List ℕ))
  pub leads : LeadTo formula clauses (before ++ Clause [] hints ∷ []) after
  pub grows : Grows held held' (flat_map line_bytes (before ++ Clause [] hints ∷ []))
  pub none_empty : NoneEmpty before
  pub derived : derived_in before ≡ count

-- a fault came amid lines that lead from the clauses to others
pub record Breaks (formula : FormulaValue) (held held' : Option (List ℕ)) (clauses : List (Option (List ℕ))) : Type 0 where
  pub lines : List Line
  pub after : List (Option (List ℕ))
  pub ends : EndsAtEmpty lines
  pub leads : LeadTo formula clauses lines after
  pub grows : GrowsByPrefix held held' (flat_map line_bytes lines)
