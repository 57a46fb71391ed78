-- Clauses that come and go in the middle of a search.
use Rattle.std.specs.Prelude.{◌≡◌, ◌-◌, ◌<◌, ◌⊎◌, ℕ, List, [], ◌∷◌}
use Rattle.clause_pool.specs.PoolValue.{PoolValue, IsIn}
use Rattle.literals.specs.Propagation.{IsFalseIn, HasNoValueIn}
use Rattle.trail.specs.Steps.{TrailValue, literals_of, level_of, back_to}
use Rattle.trail.specs.declared.step.Reason.TheVariants.{Clause}
use Rattle.trail.specs.declared.step.Step.{Step}
use Rattle.propagation.specs.Watches.{AreWatched}

-- where there is a second literal, it was not false before the last decision; a clause of one stands before all decisions
abbrev pub IsNewlyFalse : List Step → List ℕ → Type 0
IsNewlyFalse steps [] = level_of steps ≡ 0
IsNewlyFalse steps (second ∷ more) = 0 < level_of steps → IsFalseIn (literals_of (back_to (level_of steps - 1) steps)) second → ⊥

-- the clause gives its first literal a value: all others are false, and since the last decision alone
pub record IsNextReason (steps : List Step) (literals : List ℕ) : Type 0 where
  pub first : ℕ
  pub rest : List ℕ
  pub splits : literals ≡ first ∷ rest
  pub open_value : HasNoValueIn (literals_of steps) first
  pub others_false : (x : ℕ) → IsIn x rest → IsFalseIn (literals_of steps) x
  pub newly : IsNewlyFalse steps rest

-- nothing is left to propagate
abbrev pub IsSettled : PoolValue → TrailValue → Type 0
IsSettled pool trail = AreWatched (literals_of trail.steps) (literals_of trail.steps) pool.clauses

-- the clause is the reason of a step
abbrev pub IsReasonIn : List Step → ℕ → Type 0
IsReasonIn [] clause = ⊥
IsReasonIn (step ∷ older) clause = (step.reason ≡ Clause clause) ⊎ IsReasonIn older clause
