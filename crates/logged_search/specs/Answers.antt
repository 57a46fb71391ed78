-- The clause that answers a conflict.
use Rattle.std.specs.Prelude.{◌≡◌, ◌*◌, ◌<◌, ℕ, All, List, ◌∷◌, length, map}
use Rattle.clause_pool.specs.PoolValue.{PoolValue, IsFull, NoneTwice}
use Rattle.literals.specs.Literal.{opposite_of}
use Rattle.literals.specs.Propagation.{FollowsFrom}
use Rattle.trail.specs.Steps.{TrailValue, back_to, decisions_of, level_of}
use Rattle.trail.specs.declared.step.Step.{Step}
use Rattle.conflict_analysis.specs.declared.hint.Hint.{Hint}
use Rattle.conflict_analysis.specs.Hints.{AreKnownHints, clause_of_hint}
use Rattle.search_log.specs.Lines.{AreApart}
use Rattle.learning_steps.specs.Reasons.{IsNextReason}

-- the clause says that its first literal is true or one of the decisions is not
pub record ExcludesDecisions (steps : List Step) (learned : List ℕ) : Type 0 where
  pub first : ℕ
  pub clause : learned ≡ first ∷ map opposite_of (decisions_of steps)

-- the clause follows from the hints, and gives its first literal a value where decisions are taken back to this level; where
-- the pool has no room for it, it is the clause of the decisions
pub record IsAnswer (pool : PoolValue) (trail : TrailValue) (learned : List ℕ) (hints : List Hint) (back : ℕ) : Type 0 where
  pub known : AreKnownHints pool.clauses trail.steps hints
  pub follows : FollowsFrom learned (map (clause_of_hint pool.clauses trail.steps) hints)
  pub below : All (λ literal. literal < 2 * trail.variables) learned
  pub different : NoneTwice learned
  pub apart : AreApart learned
  pub lower : back < level_of trail.steps
  pub next : IsNextReason (back_to back trail.steps) learned
  pub excludes : IsFull pool (length learned) → ExcludesDecisions (back_to back trail.steps) learned
