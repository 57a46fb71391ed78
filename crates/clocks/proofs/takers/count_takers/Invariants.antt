-- The takers before the next event are counted.
use Rattle.std.proofs.Common.{◌≡◌, length}
use Rattle.clocks.specs.Events.{FindAllTakers}
use Rattle.clocks.proofs.takers.count_takers.Given as goal

abbrev pub invariant-loop-at : goal.invariant-loop-at
invariant-loop-at l = record {
  size : length l.takers ≡ length l.fn.takers;
  found : FindAllTakers l.events l.at l.takers;
}
