-- Synchronizes-with by places.
use Rattle.std.specs.Prelude.{◌≡◌, ◌<◌, ◌⊎◌, ℕ, List, Some, slice_get}
use Rattle.clocks.specs.declared.pass.Event.{Event}
use Rattle.program.specs.declared.kind.Kind.TheVariants.{VolatileRead, First}
use Rattle.action_orders.specs.declared.action.Action.{Action}
use Rattle.action_orders.specs.Actions.{Of, Var, Is, variable}
use Rattle.relations.specs.Path.{Path}
use Rattle.clocks.specs.Events.{Leads, LiesBetween}
use Rattle.orders.specs.Symbols.{Symbol}
use Rattle.orders.specs.Flat.{IsTakenFrom, IsTakenBy}
use Rattle.orders.specs.declared.answers.Orders.{Orders}

-- the places of the two identifiers in the synchronization order
pub record AreSyncedAt (o : Orders) (a b r s : ℕ) : Type 0 where
  pub first : slice_get o.flat.execution.now.so r ≡ Some a
  pub second : slice_get o.flat.execution.now.so s ≡ Some b

-- not both identifiers stand there
abbrev pub AreNotSynced : Orders → ℕ → ℕ → Type 0
AreNotSynced o a b = (r s : ℕ) → slice_get o.flat.execution.now.so r ≡ Some a → slice_get o.flat.execution.now.so s ≡ Some b → ⊥

-- the event at place r gives to the channel that the later one at place s takes from
pub record DoMeet (events : List Event) (r s : ℕ) : Type 0 where
  pub before : r < s
  pub from : Event
  pub to : Event
  pub channel : ℕ
  pub is_from : slice_get events r ≡ Some from
  pub is_to : slice_get events s ≡ Some to
  pub gives : from.gives ≡ Some channel
  pub takes : to.takes ≡ Some channel

-- a first action, or a volatile read of the variable
abbrev pub IsTargetOf : Var → Action → Type 0
IsTargetOf v a = (a.kind ≡ First) ⊎ Is VolatileRead (variable v) (Of a)

-- the edge between two places of the synchronization order is essential
pub record IsEssentialAt (events : List Event) (r s : ℕ) : Type 0 where
  pub meet : DoMeet events r s
  pub apart : (x y : Event) → slice_get events r ≡ Some x → slice_get events s ≡ Some y → x.thread ≡ y.thread → ⊥
  pub nothing : LiesBetween events r s → ⊥

-- a place from which a path leads to this one has an action that takes from the symbol, or comes after one that does
abbrev pub IsBetweenFrom : List Symbol → List Event → Symbol → ℕ → Type 0
IsBetweenFrom names events symbol s = (k : ℕ) × IsTakenFrom names events symbol k × Path (Leads events) k s

-- the same of the symbols that the default write of the variable synchronizes by
abbrev pub IsBetweenBy : List Symbol → List Event → Var → ℕ → Type 0
IsBetweenBy names events v s = (k : ℕ) × IsTakenBy names events v k × Path (Leads events) k s
