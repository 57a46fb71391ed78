-- The last places of the synchronization order, by thread.
use Rattle.std.specs.Prelude.{◌≡◌, ◌<◌, ◌↔◌, ℕ, List, Option, Some, None, length, slice_index_or, ⊤}
use Rattle.action_orders.specs.declared.action.Action.{Action}
use Rattle.action_orders.specs.Execution.{Exec}
use Rattle.orders.specs.Flat.{IsSyncAt}
use Rattle.sync_agreement.specs.declared.gate.Gate.{Gate}
use Rattle.sync_agreement.specs.Gates.{given_by}

-- the place lies behind the last one, if there is one
abbrev pub IsBehind : Option ℕ → ℕ → Type 0
IsBehind None n = ⊤
IsBehind (Some last) n = last < n

-- a place is noted for a thread, if there is one
pub record IsRaised (thread : Option ℕ) (place : ℕ) (old new : List (Option ℕ)) : Type 0 where
  pub size : length new ≡ length old
  pub each : (t n : ℕ) → IsBehind (slice_index_or new t None) n ↔ (IsBehind (slice_index_or old t None) n × (thread ≡ Some t → place < n))

-- all actions before place i of all that let the thread's later actions come after them are before place n of the
-- synchronization order
abbrev pub AreBefore : Exec → Gate → ℕ → ℕ → ℕ → Type 0
AreBefore e g i t n = (r k : ℕ) (a : Action) → IsSyncAt e r k a → k < i → given_by g a ≡ Some t → r < n

-- the last places of these actions
pub record AreLatest (e : Exec) (g : Gate) (i : ℕ) (latest : List (Option ℕ)) : Type 0 where
  pub size : length latest ≡ 8
  pub each : (t n : ℕ) → t < 8 → IsBehind (slice_index_or latest t None) n ↔ AreBefore e g i t n
