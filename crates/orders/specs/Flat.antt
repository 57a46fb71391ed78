-- The actions of all threads in one list, and the events of the synchronization order.
use Rattle.std.specs.Prelude.{◌≡◌, ◌<◌, ◌≤◌, ℕ, List, Option, Some, None, slice_get, length, ⊤}
use Rattle.relations.specs.Path.{Path}
use Rattle.clocks.specs.declared.pass.Event.{Event}
use Rattle.clocks.specs.Events.{Leads, IsTakenBefore}
use Rattle.program.specs.Program.{Prog}
use Rattle.action_orders.specs.declared.action.Action.{Action}
use Rattle.action_orders.specs.declared.action.ActionRef.{ActionRef}
use Rattle.action_orders.specs.Execution.{Exec, IsExecution}
use Rattle.action_orders.specs.Spelling.{IsSpelt}
use Rattle.action_orders.specs.Actions.{Act, Var, IsAction, actions, entries, name_of}
use Rattle.action_orders.specs.WellFormed.{FormAt, AgreesAt}
use Rattle.orders.specs.Symbols.{Symbol, OfVariable, OfStart, gives_of, takes_of, IsDistinct}

-- the orders are those of executions that meet the first two clauses of well-formedness for the program
pub record IsOrdered (p : Prog) (e : Exec) : Type 0 where
  pub shape : IsExecution e
  pub spelt : IsSpelt e
  pub form : (id : ℕ) → FormAt p e id
  pub agrees : (id : ℕ) → AgreesAt p e id

-- the names stand for actions of the execution that are so related
pub record Relates (p : Prog) (e : Exec) (R : Act → Act → Type 0) (a b : ActionRef) : Type 0 where
  pub first : Act
  pub second : Act
  pub is_first : IsAction p e first
  pub is_second : IsAction p e second
  pub named_first : name_of first ≡ a
  pub named_second : name_of second ≡ b
  pub related : R first second

-- ---- Places

-- the action at place i of the list of all threads' actions
abbrev pub IsAt : Exec → ℕ → Action → Type 0
IsAt e i a = slice_get (actions (entries e)) i ≡ Some a

-- the action at place r of the synchronization order, which stands at place i of all threads' actions
pub record IsSyncAt (e : Exec) (r i : ℕ) (a : Action) : Type 0 where
  pub listed : slice_get e.so r ≡ Some a.id
  pub at : IsAt e i a

-- place r of the synchronization order is the last of an action at or before place j in its thread
pub record IsLastSync (e : Exec) (j r : ℕ) : Type 0 where
  pub place : ℕ
  pub sync : Action
  pub action : Action
  pub is_sync : IsSyncAt e r place sync
  pub is_action : IsAt e j action
  pub thread : sync.thread ≡ action.thread
  pub before : place ≤ j
  pub last : (s k : ℕ) (b : Action) → IsSyncAt e s k b → b.thread ≡ action.thread → k ≤ j → k ≤ place

-- place r of the synchronization order is the first of an action at or after place i in its thread
pub record IsNextSync (e : Exec) (i r : ℕ) : Type 0 where
  pub place : ℕ
  pub sync : Action
  pub action : Action
  pub is_sync : IsSyncAt e r place sync
  pub is_action : IsAt e i action
  pub thread : sync.thread ≡ action.thread
  pub after : i ≤ place
  pub first : (s k : ℕ) (b : Action) → IsSyncAt e s k b → b.thread ≡ action.thread → i ≤ k → place ≤ k

-- ---- Events

-- the number of a symbol, or none of none
abbrev pub IsNumbered : List Symbol → Option Symbol → Option ℕ → Type 0
IsNumbered names None None = ⊤
IsNumbered names (Some s) (Some n) = slice_get names n ≡ Some s
IsNumbered names _ _ = ⊥

-- the event of an action
pub record IsEventOf (names : List Symbol) (a : Action) (event : Event) : Type 0 where
  pub thread : event.thread ≡ a.thread
  pub takes : IsNumbered names (takes_of a) event.takes
  pub gives : IsNumbered names (gives_of a) event.gives

-- an event for each action of the synchronization order
pub record AreEvents (e : Exec) (names : List Symbol) (events : List Event) : Type 0 where
  pub distinct : IsDistinct names
  pub each : length events ≡ length e.so
  pub event : (r i : ℕ) (a : Action) (event : Event) → IsSyncAt e r i a → slice_get events r ≡ Some event → IsEventOf names a event

-- ---- Happens-before by places

-- the action at place i stands before that at place j in their thread, or a path leads from a synchronization action at or after
-- the one to one at or before the other
pub data Reaches (e : Exec) (events : List Event) (i j : ℕ) : Type 0 where
  stands : (a b : Action) → IsAt e i a → IsAt e j b → a.thread ≡ b.thread → i < j → Reaches e events i j
  through : (r s i' j' : ℕ) (a b a' b' : Action) → IsAt e i a → IsAt e j b → IsSyncAt e r i' a' → IsSyncAt e s j' b' →
      a.thread ≡ a'.thread → i ≤ i' → b'.thread ≡ b.thread → j' ≤ j → Path (Leads events) r s → Reaches e events i j

-- ---- Happens-before from default writes

-- what the actions take from that the default write of the variable synchronizes with
pub data IsTarget (v : Var) (s : Symbol) : Type 0 where
  variable : s ≡ OfVariable v.class v.name → IsTarget v s
  start : (k : ℕ) → s ≡ OfStart k → IsTarget v s

-- the synchronization action at place s takes from the symbol, or comes after an action that does
pub record IsTakenFrom (names : List Symbol) (events : List Event) (symbol : Symbol) (s : ℕ) : Type 0 where
  pub number : ℕ
  pub numbered : slice_get names number ≡ Some symbol
  pub taken : IsTakenBefore events number s

-- and the default write of the variable synchronizes with what takes from the symbol
pub record IsTakenBy (names : List Symbol) (events : List Event) (v : Var) (s : ℕ) : Type 0 where
  pub symbol : Symbol
  pub target : IsTarget v symbol
  pub from : IsTakenFrom names events symbol s
