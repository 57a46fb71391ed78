use Rattle.std.proofs.Common.{◌<◌, ℕ, All, get_or}
use Rattle.typing.specs.Levels.{HasArrival, IsArrival, StepsTo}
use Rattle.typing.proofs.level.arrivals.Given as goal

abbrev pub invariant-loop-from : goal.invariant-loop-from
invariant-loop-from l = record {
  sound : All (IsArrival l.method l.states) l.arrivals.items;
  whole : (k to : ℕ) → k < l.from-index → StepsTo l.method.listing (get_or l.changed k 0) to → HasArrival l.arrivals.items (get_or l.changed k 0) to;
}
