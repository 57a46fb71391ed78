-- What is known before the next event, and the clocks of those before it.
use Rattle.std.proofs.Common.{◌≡◌, ℕ, Some, slice_get, length}
use Rattle.clocks.specs.declared.clock.Clock.{Clock}
use Rattle.clocks.specs.Events.{IsClockOf, AreTight, KnowsBefore}
use Rattle.clocks.proofs.pass.run.Given as goal

abbrev pub invariant-loop-at : goal.invariant-loop-at
invariant-loop-at l = record {
  size : length l.known ≡ length l.fn.known;
  knows : KnowsBefore l.events l.at l.known;
  each : length l.clocks.items ≡ l.at;
  exact : (j : ℕ) (clock : Clock) → slice_get l.clocks.items j ≡ Some clock → IsClockOf l.events j clock;
  known : AreTight l.events l.known;
  tight : AreTight l.events l.clocks.items;
}
