use Rattle.std.proofs.Common.{◌<◌, ℕ, All, Contains, ◌⊎◌, get_or}
use Rattle.typing.specs.Levels.{HasArrival, IsFrom}
use Rattle.typing.specs.Summaries.{summary_of}
use Rattle.typing.specs.declared.level.Arrival.{Arrival}
use Rattle.typing.proofs.level.arrive_at_all.Given as goal

abbrev pub invariant-loop-to : goal.invariant-loop-to
invariant-loop-to l = record {
  kept : (a : Arrival) → Contains l.initial.arrivals.items a → Contains l.arrivals.items a;
  added : (k : ℕ) → k < l.to-index → HasArrival l.arrivals.items l.from (get_or l.targets k 0);
  others : All (λ a. Contains l.initial.arrivals.items a ⊎ IsFrom l.from l.targets (summary_of l.state) a) l.arrivals.items;
}
