use Rattle.std.proofs.Common.{ℕ, ◌<◌, ◌≤◌, get_or}
use Rattle.literals.specs.Propagation.{IsFalseIn}
use Rattle.trail.specs.Steps.{literals_of}
use Rattle.propagation.proofs.visit.place_not_false.Given as goal

-- the literals behind the watched ones, so far, are false
abbrev pub invariant-loop-at : goal.invariant-loop-at
invariant-loop-at l = (k : ℕ) → 2 ≤ k → k < l.at → IsFalseIn (literals_of l.trail.steps) (get_or l.literals k 0)
