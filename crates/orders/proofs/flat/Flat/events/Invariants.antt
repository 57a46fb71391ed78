-- The events of the places so far.
use Rattle.std.proofs.Common.{◌≡◌, ℕ, Some, slice_get, length}
use Rattle.clocks.specs.declared.pass.Event.{Event}
use Rattle.action_orders.specs.declared.action.Action.{Action}
use Rattle.orders.specs.Symbols.{symbols, IsDistinct}
use Rattle.orders.specs.Flat.{IsAt, IsEventOf}
use Rattle.orders.proofs.flat.Flat.events.Given as goal

abbrev pub invariant-loop-place : goal.invariant-loop-place
invariant-loop-place l = record {
  distinct : IsDistinct (symbols l.channels);
  each : length l.events.items ≡ l.place-index;
  done : (r : ℕ) (x : Event) → slice_get l.events.items r ≡ Some x → (i : ℕ) (a : Action) → slice_get l.places r ≡ Some i → IsAt l.self.execution.now i a → IsEventOf (symbols l.channels) a x;
}
