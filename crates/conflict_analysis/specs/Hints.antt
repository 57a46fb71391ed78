-- The clauses that a learned clause follows from.
use Rattle.std.specs.Prelude.{◌≡◌, ℕ, ⊤, List, [], ◌∷◌, Option, map, if◌then◌else◌, ◌==◌, IsSome}
use Rattle.clause_pool.specs.PoolValue.{clause_at, literals_at}
use Rattle.literals.specs.Literal.{opposite_of, variable_of}
use Rattle.literals.specs.Propagation.{IsTrueIn}
use Rattle.trail.specs.Steps.{literals_of, decisions_of, reason_at}
use Rattle.trail.specs.declared.step.Step.{Step}
use Rattle.trail.specs.declared.step.Reason.TheVariants.{Decisions}
use Rattle.conflict_analysis.specs.declared.hint.Hint.{Hint}
use Rattle.conflict_analysis.specs.declared.hint.Hint.TheVariants.{Stored, Excluded}

-- the decisions before the step that made the literal true, the newest first
abbrev pub decisions_before : List Step → ℕ → List ℕ
decisions_before [] literal = []
decisions_before (step ∷ older) literal = if step.literal == literal then decisions_of older else decisions_before older literal

-- the clause of a hint: one of the pool, or that of the decisions which exclude the literal's opposite
abbrev pub clause_of_hint : List (Option (List ℕ)) → List Step → Hint → List ℕ
clause_of_hint clauses steps (Stored clause) = literals_at clauses clause
clause_of_hint clauses steps (Excluded literal) = literal ∷ map opposite_of (decisions_before steps literal)

-- the hint's clause is in the pool, or the decisions are the literal's reason
abbrev pub IsKnownHint : List (Option (List ℕ)) → List Step → Hint → Type 0
IsKnownHint clauses steps (Stored clause) = IsSome (clause_at clauses clause)
IsKnownHint clauses steps (Excluded literal) = IsTrueIn (literals_of steps) literal × (reason_at steps (variable_of literal) ≡ Decisions)

abbrev pub AreKnownHints : List (Option (List ℕ)) → List Step → List Hint → Type 0
AreKnownHints clauses steps [] = ⊤
AreKnownHints clauses steps (hint ∷ rest) = IsKnownHint clauses steps hint × AreKnownHints clauses steps rest
