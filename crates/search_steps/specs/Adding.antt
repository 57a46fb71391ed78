-- Clauses that are added before any decision.
use Rattle.std.specs.Prelude.{◌≡◌, ℕ, Bool, true, false, ◌⊎◌}
use Rattle.literals.specs.Propagation.{IsTrueIn, IsFalseIn, HasNoValueIn}
use Rattle.trail.specs.Steps.{TrailValue, literals_of, with_step}
use Rattle.trail.specs.declared.step.Reason.TheVariants.{Clause}
use Rattle.propagation.specs.Ready.{IsFit, IsConflict}
use Rattle.search_steps.specs.States.{IsState}
use Rattle.search_steps.specs.declared.state.State.{State}
use Rattle.search_steps.specs.declared.adding.Added.{Added}
use Rattle.search_steps.specs.declared.adding.Added.TheVariants.{Kept, Conflict}

abbrev pub clause_of : Added → ℕ
clause_of (Kept clause) = clause
clause_of (Conflict clause) = clause

-- the clause is false before any decision
pub record IsFirstConflict (state : State) (clause : ℕ) : Type 0 where
  pub fit : IsFit state.pool state.trail
  pub conflict : IsConflict state.pool state.trail clause

abbrev pub IsAdded : State → Added → Type 0
IsAdded state (Kept clause) = IsState state
IsAdded state (Conflict clause) = IsFirstConflict state clause

-- the literal was true, or has become so by the clause; or it was false
abbrev pub MakesTrue : TrailValue → TrailValue → ℕ → ℕ → Bool → Type 0
MakesTrue old new clause literal true = ((new ≡ old) × IsTrueIn (literals_of old.steps) literal) ⊎ ((new ≡ with_step old literal (Clause clause)) × HasNoValueIn (literals_of old.steps) literal)
MakesTrue old new clause literal false = (new ≡ old) × IsFalseIn (literals_of old.steps) literal
