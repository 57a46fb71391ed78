use Rattle.std.proofs.Common.{ℕ, ◌<◌, ◌≤◌, get_or, length}
use Rattle.literals.specs.Literal.{variable_of}
use Rattle.trail.specs.Steps.{level_at}
use Rattle.conflict_analysis.proofs.resolvent.highest.Given as goal

abbrev pub invariant-loop-at : goal.invariant-loop-at
invariant-loop-at l = record {
  behind : 1 ≤ l.best;
  within : l.best < length l.literals;
  highest : (k : ℕ) → 1 ≤ k → k < l.at → level_at l.trail.steps (variable_of (get_or l.literals k 0)) ≤ level_at l.trail.steps (variable_of (get_or l.literals l.best 0));
}
