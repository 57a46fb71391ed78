-- What holds of the state of a search.
use Rattle.std.specs.Prelude.{◌≡◌, ℕ, ◌<◌, ◌^◌, ⊤, List, [], ◌∷◌, ◌++◌, Option, Some, length}
use Rattle.clause_pool.specs.PoolValue.{IsIn, clause_at}
use Rattle.literals.specs.Literal.{positive_of, opposite_of}
use Rattle.literals.specs.Propagation.{IsTrueIn, HasNoValueIn}
use Rattle.trail.specs.Steps.{TrailValue, literals_of, decisions_of, back_to}
use Rattle.trail.specs.declared.step.Reason.{Reason}
use Rattle.trail.specs.declared.step.Reason.TheVariants.{Decision, Clause, Decisions}
use Rattle.trail.specs.declared.step.Step.{Step}
use Rattle.propagation.specs.Ready.{IsFit}
use Rattle.decision_order.specs.Waiting.{OrderValue}
use Rattle.search_steps.specs.declared.state.State.{State}

-- the trail makes one literal of the clause true
pub record HasTrue (trail literals : List ℕ) : Type 0 where
  pub literal : ℕ
  pub member : IsIn literal literals
  pub is_true : IsTrueIn trail literal

-- the trail makes every clause true
abbrev pub AreTrue : List (Option (List ℕ)) → List ℕ → Type 0
AreTrue clauses trail = (clause : ℕ) (literals : List ℕ) → clause_at clauses clause ≡ Some literals → HasTrue trail literals

-- each clause of fewer than two literals was true before all decisions
abbrev pub AreUnitsTrue : List (Option (List ℕ)) → List Step → Type 0
AreUnitsTrue clauses steps = (clause : ℕ) (literals : List ℕ) → clause_at clauses clause ≡ Some literals → length literals < 2 → HasTrue (literals_of (back_to 0 steps)) literals

-- each variable without a value waits for a decision
abbrev pub AreWaiting : List Step → OrderValue → Type 0
AreWaiting steps order = (variable : ℕ) → variable < order.variables → HasNoValueIn (literals_of steps) (positive_of variable) → IsIn variable order.waiting

-- each but this one
abbrev pub AreWaitingBut : List Step → OrderValue → ℕ → Type 0
AreWaitingBut steps order but = (variable : ℕ) → variable < order.variables → HasNoValueIn (literals_of steps) (positive_of variable) → (variable ≡ but → ⊥) → IsIn variable order.waiting

-- what holds between the steps of a search
pub record IsState (state : State) : Type 0 where
  pub fit : IsFit state.pool state.trail
  pub units : AreUnitsTrue state.pool.clauses state.trail.steps
  pub waiting : AreWaiting state.trail.steps state.order
  pub variables : state.order.variables ≡ state.trail.variables
  pub few : state.trail.variables < 2 ^ 31

abbrev pub IsNotExcluded : Reason → Type 0
IsNotExcluded Decision = ⊤
IsNotExcluded (Clause clause) = ⊤
IsNotExcluded Decisions = ⊥

-- no step has the decisions before it for its reason
abbrev pub AreNotExcluded : List Step → Type 0
AreNotExcluded [] = ⊤
AreNotExcluded (step ∷ rest) = IsNotExcluded step.reason × AreNotExcluded rest

-- steps were added, each decided or by a clause
pub record IsGrown (old new : TrailValue) : Type 0 where
  pub newer : List Step
  pub splits : new.steps ≡ newer ++ old.steps
  pub not_excluded : AreNotExcluded newer
  pub variables : new.variables ≡ old.variables

-- the last decision is the opposite of this literal
pub record IsLastDecision (steps : List Step) (literal : ℕ) : Type 0 where
  pub earlier : List ℕ
  pub last : decisions_of steps ≡ opposite_of literal ∷ earlier
