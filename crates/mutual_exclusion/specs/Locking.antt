-- Locks and unlocks by place of the synchronization order.
use Rattle.std.specs.Prelude.{◌≡◌, ◌≢◌, ◌<◌, ℕ, Bool, true, List, Option, Some, None, length, slice_get, take, count_by}
use Rattle.clocks.specs.declared.pass.Event.{Event}
use Rattle.program.specs.declared.kind.Kind.{Kind}
use Rattle.program.specs.declared.kind.Kind.TheVariants.{Lock, Unlock}
use Rattle.action_orders.specs.declared.action.Action.{Action}
use Rattle.action_orders.specs.Execution.{Exec}
use Rattle.action_orders.specs.WellFormed.{locks, unlocks, sync_actions}
use Rattle.orders.specs.declared.answers.Orders.{Orders}
use Rattle.orders.specs.Symbols.{Symbol, OfMonitor, symbols}
use Rattle.orders.specs.Flat.{IsEventOf}
use Rattle.mutual_exclusion.specs.declared.counts.Counts.{Counts}
use Rattle.mutual_exclusion.specs.Counts.{count_at}

-- the channel of a lock's monitor, and that of an unlock's
abbrev pub lock_channel : Kind → Event → Option ℕ
lock_channel Lock event = event.takes
lock_channel _ event = None

abbrev pub unlock_channel : Kind → Event → Option ℕ
unlock_channel Unlock event = event.gives
unlock_channel _ event = None

-- the counts of the actions before place r that do this to a monitor
pub record IsTally (e : Exec) (does : List ℕ → ℕ → Action → Bool) (names : List Symbol) (r : ℕ) (counts : List Counts) : Type 0 where
  pub size : length counts ≡ length names
  pub counted : (c t : ℕ) (m : List ℕ) → slice_get names c ≡ Some (OfMonitor m) → count_at counts c t ≡ count_by (does m t) (take r (sync_actions e))

-- if the action at the place is a lock, the other threads have unlocked its monitor as often as locked it
abbrev pub ExcludesAtPlace : Exec → ℕ → Type 0
ExcludesAtPlace e r = (a : Action) (m : List ℕ) (k : ℕ) → slice_get (sync_actions e) r ≡ Some a → locks m a.thread a ≡ true → k ≢ a.thread →
    count_by (unlocks m k) (take r (sync_actions e)) ≡ count_by (locks m k) (take r (sync_actions e))

-- the action at a place of the synchronization order, with its event
pub record IsActionAt (o : Orders) (r : ℕ) (a : Action) : Type 0 where
  pub at : slice_get (sync_actions o.flat.execution.now) r ≡ Some a
  pub event : (x : Event) → slice_get o.clocks.events.items r ≡ Some x → IsEventOf (symbols o.channels) a x
  pub few : a.thread < 8
