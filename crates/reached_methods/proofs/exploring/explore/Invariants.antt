use Rattle.std.proofs.Common.{◌-◌, ◌^◌, length}
use Rattle.reached_methods.specs.Exploring.{IsExploring}
use Rattle.reached_methods.proofs.exploring.explore.Given as goal

abbrev pub invariant-loop-id : goal.invariant-loop-id
invariant-loop-id l = IsExploring l.classes l.main l.seen l.surveys.items

abbrev pub decreases-loop-id : goal.decreases-loop-id
decreases-loop-id l = 2 ^ 63 - length l.surveys.items
