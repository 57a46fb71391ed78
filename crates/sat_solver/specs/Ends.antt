-- How a search ends.
use Rattle.std.specs.Prelude.{◌≡◌, ◌+◌, ◌<◌, ◌^◌, ℕ, List, [], Option, length}
use Rattle.ports.specs.Growth.{Grows}
use Rattle.trail.specs.Steps.{literals_of}
use Rattle.var_names.specs.Formulas.{FormulaValue}
use Rattle.refutation_lines.specs.LineText.{header_bytes}
use Rattle.search_steps.specs.States.{AreTrue}
use Rattle.logged_search.specs.Conflicts.{HasConflict}
use Rattle.logged_search.specs.Going.{Closes, Goes, derived_in}
use Rattle.logged_search.specs.Logged.{IsLogged}
use Rattle.logged_search.specs.declared.search.LoggedSearch.{LoggedSearch}
use Rattle.sat_solver.specs.declared.deciding.End.{End}
use Rattle.sat_solver.specs.declared.deciding.End.TheVariants.{Satisfied, Refuted, Spent}

-- so many clause lines are fewer than twice the assignments of the formula's variables
abbrev pub AreFew : FormulaValue → ℕ → Type 0
AreFew formula count = count < 2 ^ (length formula.variables + 1)

-- the formula's clauses and the live ones have a conflict, and there are as many clause lines as the budget allows
pub record HasSpent (formula : FormulaValue) (budget : ℕ) (old new : LoggedSearch) (held held' : Option (List ℕ)) : Type 0 where
  pub goes : Goes formula old.log new.log held held' [] (HasConflict formula)
  pub derived : derived_in goes.lines ≡ budget
  pub few : AreFew formula (budget + 1)

-- the trail makes every clause true
pub record HasModel (formula : FormulaValue) (old new : LoggedSearch) (held held' : Option (List ℕ)) : Type 0 where
  pub goes : Goes formula old.log new.log held held' [] (IsLogged formula new)
  pub few : AreFew formula (derived_in goes.lines)
  pub are_true : AreTrue new.state.pool.clauses (literals_of new.state.trail.steps)

-- the last line is the clause without literals
pub record HasClosed (formula : FormulaValue) (held held' : Option (List ℕ)) : Type 0 where
  pub before : ℕ
  pub closes : Closes formula before held held' []
  pub few : AreFew formula (derived_in closes.before + 1)

abbrev pub Ends : FormulaValue → ℕ → LoggedSearch → LoggedSearch → Option (List ℕ) → Option (List ℕ) → End → Type 0
Ends formula budget old new held held' Satisfied = HasModel formula old new held held'
Ends formula budget old new held held' Refuted = HasClosed formula held held'
Ends formula budget old new held held' Spent = HasSpent formula budget old new held held'

-- the beginning of the log was put, and then something came
pub record IsHeaded (formula : FormulaValue) (held : Option (List ℕ)) (Then : Option (List ℕ) → Type 0) : Type 0 where
  pub begun : Option (List ℕ)
  pub header : Grows held begun (header_bytes formula.steps)
  pub rest : Then begun
