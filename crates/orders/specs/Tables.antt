-- The tables that the orders are answered from.
use Rattle.std.specs.Prelude.{◌≡◌, ◌<◌, ◌≤◌, ◌+◌, ℕ, List, Option, Some, None, slice_get, slice_index_or, length, map, All}
use Rattle.action_orders.specs.declared.action.Action.{Action}
use Rattle.program.specs.declared.kind.Kind.TheVariants.{Print}
use Rattle.action_orders.specs.declared.action.ActionOperand.TheVariants.{Nothing}
use Rattle.action_orders.specs.Execution.{Exec}
use Rattle.action_orders.specs.Actions.{actions, entries}
use Rattle.orders.specs.declared.flat.Flat.{Flat}
use Rattle.orders.specs.Lists.{seen}
use Rattle.orders.specs.Flat.{IsAt, IsSyncAt}

-- the action at a place, or any where there is none
abbrev pub action_of : Flat → ℕ → Action
action_of flat i = slice_index_or (actions (entries flat.execution.now)) i (record { thread = 0; id = 0; kind = Print; operand = Nothing })

pub record IsFlat (flat : Flat) : Type 0 where
  pub listed : seen flat.entries.items ≡ entries flat.execution.now
  pub numbered : flat.ids.keys ≡ map (λ n. n.action.id) (entries flat.execution.now)
  pub ordered : flat.sync.keys ≡ flat.execution.now.so
  pub few : All (λ n. n.action.thread < 8) (entries flat.execution.now)

-- for each place of the synchronization order the place of its action
pub record ArePlaces (e : Exec) (places : List ℕ) : Type 0 where
  pub each : length places ≡ length e.so
  pub at : (r i : ℕ) → slice_get places r ≡ Some i → (a : Action) × IsSyncAt e r i a

-- place r of the synchronization order is the last of an action of the thread before place i
pub record IsLastOfThread (e : Exec) (t i r : ℕ) : Type 0 where
  pub place : ℕ
  pub sync : Action
  pub is_sync : IsSyncAt e r place sync
  pub thread : sync.thread ≡ t
  pub before : place < i
  pub last : (s k : ℕ) (b : Action) → IsSyncAt e s k b → b.thread ≡ t → k < i → k ≤ place

-- the last of them, or none where there is none
pub record IsLastBefore (e : Exec) (t i : ℕ) (o : Option ℕ) : Type 0 where
  pub found : (r : ℕ) → o ≡ Some r → IsLastOfThread e t i r
  pub none : o ≡ None → (s k : ℕ) (b : Action) → IsSyncAt e s k b → b.thread ≡ t → k < i → ⊥

-- for each action the last synchronization action of its thread at or before it
pub record AreLast (e : Exec) (before : List (Option ℕ)) : Type 0 where
  pub each : length before ≡ length (entries e)
  pub last : (j : ℕ) (a : Action) (o : Option ℕ) → IsAt e j a → slice_get before j ≡ Some o → IsLastBefore e a.thread (j + 1) o
