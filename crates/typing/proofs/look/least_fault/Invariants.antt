use Rattle.typing.specs.Levels.{IsLeastFound}
use Rattle.typing.proofs.look.least_fault.Given as goal

abbrev pub invariant-loop-place : goal.invariant-loop-place
invariant-loop-place l = IsLeastFound l.method l.states l.changed l.place-index l.best
