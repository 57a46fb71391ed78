-- Entries by place of the synchronization order.
use Rattle.std.specs.Prelude.{◌≡◌, ℕ, Some, slice_get}
use Rattle.clocks.specs.declared.pass.Event.{Event}
use Rattle.action_orders.specs.declared.action.Entry.{Entry}
use Rattle.action_orders.specs.Actions.{entries}
use Rattle.orders.specs.declared.answers.Orders.{Orders}
use Rattle.orders.specs.Symbols.{symbols}
use Rattle.orders.specs.Flat.{IsSyncAt, IsEventOf}

-- the entry of the action at a place of the synchronization order, with its event
pub record IsEntryAt (o : Orders) (s : ℕ) (n : Entry) : Type 0 where
  pub place : ℕ
  pub entry : slice_get (entries o.flat.execution.now) place ≡ Some n
  pub sync : IsSyncAt o.flat.execution.now s place n.action
  pub event : (x : Event) → slice_get o.clocks.events.items s ≡ Some x → IsEventOf (symbols o.channels) n.action x
