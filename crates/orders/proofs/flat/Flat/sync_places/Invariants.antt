-- The places of the identifiers so far.
use Rattle.std.proofs.Common.{◌≡◌, ℕ, Some, slice_get, length}
use Rattle.action_orders.specs.declared.action.Action.{Action}
use Rattle.orders.specs.Flat.{IsSyncAt}
use Rattle.orders.proofs.flat.Flat.sync_places.Given as goal

abbrev pub invariant-loop-id : goal.invariant-loop-id
invariant-loop-id l = record {
  each : length l.places.items ≡ l.id-index;
  at : (r i : ℕ) → slice_get l.places.items r ≡ Some i → (a : Action) × IsSyncAt l.self.execution.now r i a;
}
