-- The clause that is learned from a conflict.
use Rattle.std.specs.Prelude.{◌≡◌, ℕ, ◌<◌, ◌≤◌, List, [], ◌∷◌, map}
use Rattle.clause_pool.specs.PoolValue.{PoolValue, IsIn, NoneTwice}
use Rattle.literals.specs.Literal.{variable_of}
use Rattle.literals.specs.Propagation.{IsFalseClause, FollowsFrom}
use Rattle.trail.specs.Steps.{TrailValue, literals_of, level_of, level_at}
use Rattle.trail.specs.declared.step.Step.{Step}
use Rattle.conflict_analysis.specs.declared.hint.Hint.{Hint}
use Rattle.conflict_analysis.specs.Hints.{clause_of_hint, AreKnownHints}

-- the literals behind the first are false up to this level, and up to no lower one
abbrev pub IsBackLevel : List Step → List ℕ → ℕ → Type 0
IsBackLevel steps [] back = back ≡ 0
IsBackLevel steps (second ∷ rest) back = level_at steps (variable_of second) ≡ back

-- the first literal got its value with the last decision, and all others before it
pub record IsAsserting (steps : List Step) (learned : List ℕ) (back : ℕ) : Type 0 where
  pub first : ℕ
  pub rest : List ℕ
  pub splits : learned ≡ first ∷ rest
  pub newest : level_at steps (variable_of first) ≡ level_of steps
  pub earlier : (x : ℕ) → IsIn x rest → level_at steps (variable_of x) ≤ back
  pub is_back : IsBackLevel steps rest back
  pub below : back < level_of steps

pub record IsLearned (pool : PoolValue) (trail : TrailValue) (learned : List ℕ) (hints : List Hint) (back : ℕ) : Type 0 where
  pub known : AreKnownHints pool.clauses trail.steps hints
  pub follows : FollowsFrom learned (map (clause_of_hint pool.clauses trail.steps) hints)
  pub different : NoneTwice learned
  pub all_false : IsFalseClause (literals_of trail.steps) learned
  pub empty : level_of trail.steps ≡ 0 → learned ≡ []
  pub asserting : 0 < level_of trail.steps → IsAsserting trail.steps learned back
