use Rattle.std.proofs.Common.{◌≡◌, ℕ, ◌<◌, get_or}
use Rattle.literals.specs.Literal.{variable_of}
use Rattle.literals.specs.Propagation.{IsTrueIn}
use Rattle.trail.specs.Steps.{literals_of, reason_at}
use Rattle.trail.specs.declared.step.Reason.TheVariants.{Clause}
use Rattle.learning_steps.proofs.forgetting.is_reason.Given as goal

-- none of the literals so far is true by the clause
abbrev pub invariant-loop-literal : goal.invariant-loop-literal
invariant-loop-literal l = (k : ℕ) → k < l.literal-index → IsTrueIn (literals_of l.trail.steps) (get_or l.literal-items k 0) → reason_at l.trail.steps (variable_of (get_or l.literal-items k 0)) ≡ Clause l.clause → ⊥
