-- What holds of a search with its log.
use Rattle.std.specs.Prelude.{◌≡◌, ◌+◌, ◌*◌, ◌≤◌, ℕ, List, Option, length}
use Rattle.var_names.specs.Formulas.{FormulaValue}
use Rattle.search_steps.specs.States.{IsState}
use Rattle.logged_search.specs.Ranks.{rank_of}
use Rattle.logged_search.specs.Tied.{AreAllNamed, AreTied, HoldsFormula, IsPending}
use Rattle.logged_search.specs.Used.{in_use}
use Rattle.logged_search.specs.declared.search.LoggedSearch.{LoggedSearch}

-- the parts of a search are of one size, and it knows the room of its pool
pub record IsSized (formula : FormulaValue) (search : LoggedSearch) : Type 0 where
  pub variables : search.state.trail.variables ≡ length formula.variables
  pub analysis : search.analysis.literals ≡ 2 * search.state.trail.variables
  pub words : search.words ≡ search.state.pool.words
  pub spare : search.spare + in_use search.state.pool.clauses ≡ length search.state.pool.clauses

-- what holds between the conflicts of a search, where the lines of its log led to these clauses: among the rest, there are no
-- more clause lines than trails before the present one
pub record IsLogged (formula : FormulaValue) (search : LoggedSearch) (clauses : List (Option (List ℕ))) : Type 0 where
  pub state : IsState search.state
  pub sized : IsSized formula search
  pub tied : AreTied formula clauses search.state.pool search.state.trail.steps search.log
  pub named : AreAllNamed clauses search.log
  pub holds : HoldsFormula formula search.state.pool.clauses
  pub counted : search.log.derived ≤ rank_of search.state.trail.variables search.state.trail.steps

pub record HasLog (formula : FormulaValue) (search : LoggedSearch) : Type 0 where
  pub clauses : List (Option (List ℕ))
  pub logged : IsLogged formula search clauses

-- the clause that was learned is the one that was logged last
pub record HasPendingOf (search : LoggedSearch) : Type 0 where
  pub formula : FormulaValue
  pub clauses : List (Option (List ℕ))
  pub sized : IsSized formula search
  pub pending : IsPending formula search.state search.log clauses search.analysis.learned

pub record HasTie (formula : FormulaValue) (search : LoggedSearch) : Type 0 where
  pub clauses : List (Option (List ℕ))
  pub tied : AreTied formula clauses search.state.pool search.state.trail.steps search.log
