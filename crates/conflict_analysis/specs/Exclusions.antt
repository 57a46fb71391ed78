-- The clause of the opposites of all decisions.
use Rattle.std.specs.Prelude.{◌≡◌, ℕ, List, [], ◌∷◌, ◌++◌, map, if◌then◌else◌}
use Rattle.clause_pool.specs.PoolValue.{PoolValue}
use Rattle.literals.specs.Literal.{opposite_of}
use Rattle.literals.specs.Propagation.{FollowsFrom}
use Rattle.trail.specs.Steps.{TrailValue, decisions_of, is_decision}
use Rattle.trail.specs.declared.step.Reason.{Reason}
use Rattle.trail.specs.declared.step.Reason.TheVariants.{Decision, Clause, Decisions}
use Rattle.trail.specs.declared.step.Step.{Step}
use Rattle.conflict_analysis.specs.declared.hint.Hint.{Hint}
use Rattle.conflict_analysis.specs.declared.hint.Hint.TheVariants.{Stored, Excluded}
use Rattle.conflict_analysis.specs.Hints.{clause_of_hint, AreKnownHints}

-- the opposite of a step that was decided
abbrev pub opposites_of_step : Step → List ℕ
opposites_of_step step = if is_decision step.reason then opposite_of step.literal ∷ [] else []

abbrev pub hints_of_reason : Reason → ℕ → List Hint
hints_of_reason Decision literal = []
hints_of_reason (Clause clause) literal = Stored clause ∷ []
hints_of_reason Decisions literal = Excluded literal ∷ []

-- the reasons of all steps, the oldest first
abbrev pub reason_hints : List Step → List Hint
reason_hints [] = []
reason_hints (step ∷ older) = reason_hints older ++ hints_of_reason step.reason step.literal

-- the clause says that not all decisions are true, the last one first, and follows from the clauses of the hints
pub record IsExclusion (pool : PoolValue) (trail : TrailValue) (learned : List ℕ) (hints : List Hint) : Type 0 where
  pub known : AreKnownHints pool.clauses trail.steps hints
  pub follows : FollowsFrom learned (map (clause_of_hint pool.clauses trail.steps) hints)
  pub decisions : learned ≡ map opposite_of (decisions_of trail.steps)
