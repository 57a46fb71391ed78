-- The last writes of volatile variables along the synchronization order.
use Rattle.std.specs.Prelude.{◌≡◌, ◌<◌, ◌≤◌, ◌+◌, ℕ, List, Option, Some, None, Contains, slice_get, slice_set, slice_index_or, length, map}
use Rattle.clocks.specs.declared.pass.Event.{Event}
use Rattle.program.specs.Program.{Prog}
use Rattle.program.specs.declared.kind.Kind.{Kind}
use Rattle.program.specs.declared.kind.Kind.TheVariants.{VolatileRead, VolatileWrite}
use Rattle.action_orders.specs.declared.action.Action.{Action}
use Rattle.action_orders.specs.Execution.{Exec}
use Rattle.action_orders.specs.Actions.{Act, Of, Default, Var, IsAction, Is, IsWrite, IsNamed, Sees, name_of, variable, volatiles}
use Rattle.action_orders.specs.Orders.{sync_list}
use Rattle.action_orders.specs.WellFormed.{SeesBySyncOrder}
use Rattle.orders.specs.Symbols.{Symbol, OfVariable}
use Rattle.orders.specs.Flat.{IsSyncAt}

-- the action stands at place n of the synchronization order, with the default writes of the volatile variables in front
pub record IsPlaceOf (p : Prog) (e : Exec) (x : Act) (n : ℕ) : Type 0 where
  pub action : IsAction p e x
  pub at : slice_get (sync_list p e) n ≡ Some (name_of x)

-- how many default writes stand in front
abbrev pub front : Prog → ℕ
front p = length (map (λ v. name_of (Default v)) (volatiles p))

-- the last write to the variable before place s of the threads' actions in the synchronization order: the default write, or the
-- action with this identifier
pub record IsLastWrite (p : Prog) (e : Exec) (v : Var) (s : ℕ) (named : Option ℕ) : Type 0 where
  pub write : Act
  pub place : ℕ
  pub is_write : IsWrite v write
  pub is_place : IsPlaceOf p e write place
  pub is_named : IsNamed e v named write
  pub before : place < front p + s
  pub last : (x : Act) (n : ℕ) → IsWrite v x → IsPlaceOf p e x n → n < front p + s → n ≤ place

-- the last writes of the volatile variables, by the numbers of their names
pub record AreLastWrites (p : Prog) (e : Exec) (names : List Symbol) (s : ℕ) (last : List (Option ℕ)) : Type 0 where
  pub size : length last ≡ length names
  pub each : (c : ℕ) (v : Var) (d : Option ℕ) → slice_get names c ≡ Some (OfVariable v.class v.name) → Contains (volatiles p) v → IsLastWrite p e v s (slice_index_or last c d)

-- one more write, if its variable has a number
abbrev pub with_last : List (Option ℕ) → Option ℕ → ℕ → List (Option ℕ)
with_last last None id = last
with_last last (Some c) id = slice_set last c (Some id)

-- the channel of a volatile read's variable, and that of a volatile write's
abbrev pub read_channel : Kind → Event → Option ℕ
read_channel VolatileRead event = event.takes
read_channel _ event = None

abbrev pub write_channel : Kind → Event → Option ℕ
write_channel VolatileWrite event = event.gives
write_channel _ event = None

-- if the action at the place is a volatile read, what it sees agrees with the synchronization order
abbrev pub IsConsistentAtPlace : Prog → Exec → ℕ → Type 0
IsConsistentAtPlace p e s = (i : ℕ) (r : Action) (v : Var) (w : Act) → IsSyncAt e s i r → Is VolatileRead (variable v) (Of r) → Sees e v (Of r) w → SeesBySyncOrder p e v (Of r) w
