-- A search before any decision.
use Rattle.std.specs.Prelude.{◌≡◌, ◌+◌, ◌*◌, ◌<◌, ℕ, List, [], None, Option, Some}
use Rattle.clause_pool.specs.PoolValue.{clause_at}
use Rattle.trail.specs.Steps.{level_of}
use Rattle.propagation.specs.Ready.{IsConflict, IsFit}
use Rattle.var_names.specs.Formulas.{FormulaValue, NamesClause}
use Rattle.search_steps.specs.States.{IsState}
use Rattle.search_steps.specs.declared.adding.Added.{Added}
use Rattle.search_steps.specs.declared.adding.Added.TheVariants.{Kept, Conflict}
use Rattle.search_log.specs.Names.{SameLiterals}
use Rattle.logged_search.specs.Tied.{AreTied}
use Rattle.logged_search.specs.Logged.{IsLogged, IsSized}
use Rattle.logged_search.specs.declared.search.LoggedSearch.{LoggedSearch}

-- the clauses of the formula up to this place are in the pool
abbrev pub HoldsUpto : FormulaValue → ℕ → List (Option (List ℕ)) → Type 0
HoldsUpto formula count stored =
    (place : ℕ) (numbers : List ℕ) → place < count → NamesClause formula place numbers
    → (clause : ℕ) × (literals : List ℕ) × (clause_at stored clause ≡ Some literals) × SameLiterals literals numbers

-- so many clauses of the formula are in the pool, and nothing was decided or put
pub record IsOpened (formula : FormulaValue) (search : LoggedSearch) (count : ℕ) : Type 0 where
  pub state : IsState search.state
  pub sized : IsSized formula search
  pub tied : AreTied formula [] search.state.pool search.state.trail.steps search.log
  pub holds : HoldsUpto formula count search.state.pool.clauses
  pub undecided : level_of search.state.trail.steps ≡ 0
  pub derived : search.log.derived ≡ 0
  pub instances : search.log.instances ≡ 0

-- a clause of the formula is false before any decision, and nothing was put
pub record IsRefuted (formula : FormulaValue) (search : LoggedSearch) (clause : ℕ) : Type 0 where
  pub fit : IsFit search.state.pool search.state.trail
  pub analysis : search.analysis.literals ≡ 2 * search.state.trail.variables
  pub tied : AreTied formula [] search.state.pool search.state.trail.steps search.log
  pub undecided : level_of search.state.trail.steps ≡ 0
  pub derived : search.log.derived ≡ 0
  pub conflict : IsConflict search.state.pool search.state.trail clause

abbrev pub IsAddedTo : FormulaValue → LoggedSearch → ℕ → Added → Type 0
IsAddedTo formula search place (Kept clause) = IsOpened formula search (place + 1)
IsAddedTo formula search place (Conflict clause) = IsRefuted formula search clause

pub record IsStarted (formula : FormulaValue) (search : LoggedSearch) : Type 0 where
  pub logged : IsLogged formula search []
  pub derived : search.log.derived ≡ 0

-- all clauses of the formula are in the pool, or one of them is false
abbrev pub IsBegun : FormulaValue → LoggedSearch → Option ℕ → Type 0
IsBegun formula search None = IsStarted formula search
IsBegun formula search (Some clause) = IsRefuted formula search clause
