use Rattle.std.specs.List.{AllWithin}
use Rattle.reached_methods.specs.Ranks.{FallsBy}
use Rattle.reached_methods.proofs.ranks.all_fall_by.Given as goal

abbrev pub invariant-loop-target : goal.invariant-loop-target
invariant-loop-target l = AllWithin (FallsBy l.surveys l.ranks l.at l.drop) l.targets 0 l.target-index
