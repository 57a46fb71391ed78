-- What is last of each thread, and what was noted.
use Rattle.std.proofs.Common.{◌≡◌, ◌<◌, ◌+◌, ℕ, Option, Some, slice_get, slice_index_or, length}
use Rattle.action_orders.specs.declared.action.Action.{Action}
use Rattle.orders.specs.Flat.{IsAt}
use Rattle.orders.specs.Tables.{IsLastBefore}
use Rattle.orders.proofs.flat.Flat.last_syncs.Given as goal

abbrev pub invariant-loop-at : goal.invariant-loop-at
invariant-loop-at l = record {
  size : length l.last ≡ 8;
  lasts : (t : ℕ) (d : Option ℕ) → t < 8 → IsLastBefore l.self.execution.now t l.at (slice_index_or l.last t d);
  each : length l.before.items ≡ l.at;
  done : (j : ℕ) (o : Option ℕ) → slice_get l.before.items j ≡ Some o → (a : Action) → IsAt l.self.execution.now j a → IsLastBefore l.self.execution.now a.thread (j + 1) o;
}
