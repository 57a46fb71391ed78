use Rattle.std.proofs.Common.{◌≡◌, take, map}
use Rattle.resolution.specs.Targets.{is_target}
use Rattle.resolution.proofs.index.targets_of.Given as goal

abbrev pub invariant-loop-class : goal.invariant-loop-class
invariant-loop-class l = l.targets.items ≡ map is_target (take l.class-index l.classes)
