-- What the answers of a search say.
use Rattle.std.specs.Prelude.{◌≡◌, ◌+◌, ℕ, All, Bool, List, Option, length}
use Rattle.literals.specs.Truth.{IsTrueClause, values_of}
use Rattle.ports.specs.Growth.{Grows, GrowsByPrefix}
use Rattle.var_names.specs.Formulas.{FormulaValue, NamesClause}
use Rattle.var_names.specs.Variables.{Variable}
use Rattle.refutation_lines.specs.declared.line.Line.{Line}
use Rattle.refutation_lines.specs.LineText.{text_2}
use Rattle.refutation_lines.specs.Refutations.{IsRefutation, IsSatisfied, LogLines}
use Rattle.numbered_hints.specs.ByLiteral as by_literal
use Rattle.logged_search.specs.Conflicts.{HasConflict}
use Rattle.logged_search.specs.Going.{NoneEmpty, derived_in}
use Rattle.sat_solver.specs.declared.search.Answer.{Answer}
use Rattle.sat_solver.specs.declared.search.Answer.TheVariants.{Satisfied, Refuted, Spent}
use Rattle.sat_solver.specs.declared.search.Search.{Search}
use Rattle.sat_solver.specs.Ends.{AreFew}
use Rattle.sat_solver.specs.Opened.{IsBegun}

-- what was taken for the formula, before any decision
pub record IsSearch (search : Search) : Type 0 where
  pub begun : IsBegun search.formula.now search.state search.conflict
  pub values : length search.values ≡ length search.formula.now.variables

-- every clause of the formula is true under these values
abbrev pub IsModel : FormulaValue → List Bool → Type 0
IsModel formula values = (place : ℕ) (numbers : List ℕ) → NamesClause formula place numbers → IsTrueClause (values_of values) numbers

-- no assignment makes every clause of the formula true
abbrev pub HasNoModel : FormulaValue → Type 0
HasNoModel formula = (value : Variable → Bool) → All (λ instance. IsSatisfied value instance.literals) formula.clauses → ⊥

-- the text of lines was put, of which each clause is one of the formula or follows from those before; fewer of them are of
-- clauses than twice the assignments
pub record PutsLines (formula : FormulaValue) (held held' : Option (List ℕ)) : Type 0 where
  pub lines : List Line
  pub log : LogLines formula.clauses lines
  pub grows : Grows held held' (text_2 formula.steps lines)
  pub few : AreFew formula (derived_in lines)

-- the text of a refutation was put
pub record PutsRefutation (formula : FormulaValue) (held held' : Option (List ℕ)) : Type 0 where
  pub lines : List Line
  pub refutation : IsRefutation formula.clauses lines
  pub grows : Grows held held' (text_2 formula.steps lines)
  pub few : AreFew formula (derived_in lines)

-- the text of lines was put, as many of them of clauses as the budget allows, and none of the clause without literals; with
-- the clauses of the formula and those that are live after the lines unit propagation comes to a conflict, and one line more
-- would still be fewer than twice the assignments
pub record PutsBudget (formula : FormulaValue) (budget : ℕ) (held held' : Option (List ℕ)) : Type 0 where
  pub lines : List Line
  pub log : LogLines formula.clauses lines
  pub grows : Grows held held' (text_2 formula.steps lines)
  pub none_empty : NoneEmpty lines
  pub derived : derived_in lines ≡ budget
  pub live : List (Option (List ℕ))
  pub are_live : log.clauses ≡ by_literal.literals_of formula.variables live
  pub conflict : HasConflict formula live
  pub few : AreFew formula (budget + 1)

abbrev pub Answers : FormulaValue → ℕ → Option (List ℕ) → Option (List ℕ) → Answer → Type 0
Answers formula budget held held' (Satisfied values) = PutsLines formula held held' × IsModel formula values
Answers formula budget held held' Refuted = PutsRefutation formula held held' × HasNoModel formula
Answers formula budget held held' Spent = PutsBudget formula budget held held'

-- a prefix of the text of such lines was put
pub record Faults (formula : FormulaValue) (held held' : Option (List ℕ)) : Type 0 where
  pub lines : List Line
  pub log : LogLines formula.clauses lines
  pub grows : GrowsByPrefix held held' (text_2 formula.steps lines)
