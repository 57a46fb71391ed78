use Rattle.std.proofs.Common.{◌≡◌, length}
use Rattle.trail.specs.Steps.{back_in}
use Rattle.trail.proofs.trail.Trail.back_to.Given as goal

abbrev pub invariant-loop-self : goal.invariant-loop-self
invariant-loop-self l = back_in l.self l.level ≡ back_in l.initial.self l.level

abbrev pub decreases-loop-self : goal.decreases-loop-self
decreases-loop-self l = length l.self.steps
