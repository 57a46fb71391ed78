-- Well-formed executions (JLS 17.4.7), clause by clause and place by place.
use Rattle.std.specs.Prelude.{◌≡◌, ◌≢◌, ◌<◌, ℕ, Bool, true, false, ◌&&◌, nat_eq, List, Contains, Some, slice_get, length, take, count_by, find, ◌⊎◌, ⊤}
use Rattle.std.specs.List.{filter_map}
use lib.Pointwise.{pointwise}
use Rattle.program.specs.Program.{Prog}
use Rattle.program.specs.declared.kind.Kind.{Kind}
use Rattle.program.specs.declared.kind.Kind.TheVariants.{Read, Write, VolatileRead, VolatileWrite, Lock, Unlock, First, Last, Start, Detect, Print}
use Rattle.action_orders.specs.declared.action.Action.{Action}
use Rattle.action_orders.specs.declared.action.ActionOperand.{ActionOperand}
use Rattle.action_orders.specs.declared.action.ActionOperand.TheVariants.{Variable, Monitor, Thread, Nothing}
use Rattle.action_orders.specs.declared.action.Entry.{Entry}
use Rattle.action_orders.specs.Execution.{Exec, IsExecution}
use Rattle.action_orders.specs.Actions.{Act, Of, Var, IsAction, Is, IsBy, IsRead, IsWrite, Sees, actions, entries, variable, variables, volatiles}
use Rattle.action_orders.specs.Orders.{ProgramOrder, SyncOrder}
use Rattle.action_orders.specs.HappensBefore.{HappensBefore}
use Rattle.action_orders.specs.Runs.{IsIntraThreadConsistent}

-- a synchronization action (JLS 17.4.2): every kind but read, write and print
abbrev pub IsSync : Kind → Type 0
IsSync Read = ⊥
IsSync Write = ⊥
IsSync Print = ⊥
IsSync _ = ⊤

-- the program has what the operand names
abbrev pub IsThere : Prog → ActionOperand → Type 0
IsThere p (Variable class name) = Contains (variables p) (record { class = class; name = name })
IsThere p (Monitor class) = Contains p.monitors class
IsThere p (Thread k) = k < length p.threads
IsThere p Nothing = ⊤

-- an action with this identifier
pub record HasId (e : Exec) (id : ℕ) (a : Action) : Type 0 where
  pub action : Contains (actions (entries e)) a
  pub named : a.id ≡ id

-- ---- Clause 1: the form

pub record FormAt (p : Prog) (e : Exec) (id : ℕ) : Type 0 where
  -- no other action has the identifier
  pub once : (i j : ℕ) (m n : Entry) → i < j → slice_get (entries e) i ≡ Some m → slice_get (entries e) j ≡ Some n → m.action.id ≡ id → n.action.id ≡ id → ⊥
  -- the program has the operand
  pub operand : (a : Action) → HasId e id a → IsThere p a.operand
  -- a read sees a write of the execution, or the default write, to the same variable
  pub write : (a : Action) (v : Var) → HasId e id a → IsRead v (Of a) → (w : Act) × Sees e v (Of a) w × IsAction p e w × IsWrite v w
  -- volatile actions are on volatile variables
  pub volatile : (a : Action) (v : Var) → HasId e id a → Is VolatileRead (variable v) (Of a) ⊎ Is VolatileWrite (variable v) (Of a) → Contains (volatiles p) v
  -- and no others are
  pub plain : (a : Action) (v : Var) → HasId e id a → Is Read (variable v) (Of a) ⊎ Is Write (variable v) (Of a) → Contains (volatiles p) v → ⊥
  -- the synchronization order lists each synchronization action
  pub listed : (a : Action) → HasId e id a → IsSync a.kind → Contains e.so id
  -- and nothing else
  pub known : Contains e.so id → (a : Action) × HasId e id a × IsSync a.kind
  -- and each once
  pub listed_once : (i j : ℕ) → i < j → slice_get e.so i ≡ Some id → slice_get e.so j ≡ Some id → ⊥

-- ---- Clause 2: the synchronization order agrees with program order; at the identifier of the later action

pub record AgreesAt (p : Prog) (e : Exec) (id : ℕ) : Type 0 where
  pub program_order : (a b : Action) → HasId e id b → ProgramOrder e (Of a) (Of b) → IsSync a.kind → IsSync b.kind → SyncOrder p e (Of a) (Of b)
  -- each start of a thread precedes each first action of it (the project's own reading)
  pub start : (k : ℕ) (a : Act) (b : Action) → HasId e id b → IsAction p e a → Is Start (Thread k) a → IsBy First k (Of b) → SyncOrder p e a (Of b)
  -- each last action of a thread precedes each detection of its end (the project's own reading)
  pub detect : (k : ℕ) (a : Act) (b : Action) → HasId e id b → IsAction p e a → IsBy Last k a → Is Detect (Thread k) (Of b) → SyncOrder p e a (Of b)

-- ---- Clause 3: mutual exclusion, by counts (the project's own reading of JLS 17.4.4 and 17.1)

abbrev pub is_lock : Kind → Bool
is_lock Lock = true
is_lock _ = false

abbrev pub is_unlock : Kind → Bool
is_unlock Unlock = true
is_unlock _ = false

abbrev pub is_monitor : List ℕ → ActionOperand → Bool
is_monitor m (Monitor class) = pointwise nat_eq class m
is_monitor m _ = false

-- a lock of the monitor by the thread
abbrev pub locks : List ℕ → ℕ → Action → Bool
locks m k a = is_lock a.kind && nat_eq a.thread k && is_monitor m a.operand

-- an unlock of the monitor by the thread
abbrev pub unlocks : List ℕ → ℕ → Action → Bool
unlocks m k a = is_unlock a.kind && nat_eq a.thread k && is_monitor m a.operand

-- the actions of the synchronization order, in its order
abbrev pub sync_actions : Exec → List Action
sync_actions e = filter_map (λ id. find (λ a. nat_eq a.id id) (actions (entries e))) e.so

-- if the identifier is a lock's, every other thread has as many unlocks as locks of the monitor before it
abbrev pub ExcludesAt : Exec → ℕ → Type 0
ExcludesAt e id = (i : ℕ) (a : Action) (m : List ℕ) (k : ℕ) → slice_get (sync_actions e) i ≡ Some a → a.id ≡ id → locks m a.thread a ≡ true → k ≢ a.thread →
    count_by (unlocks m k) (take i (sync_actions e)) ≡ count_by (locks m k) (take i (sync_actions e))

abbrev pub ExcludesMutually : Exec → Type 0
ExcludesMutually e = (id : ℕ) → ExcludesAt e id

-- ---- Clause 5: happens-before consistency (JLS 17.4.5); at the identifier of the read

pub record SeesByHappensBefore (p : Prog) (e : Exec) (v : Var) (r w : Act) : Type 0 where
  pub not_later : HappensBefore p e r w → ⊥
  pub none_between : (other : Act) → IsAction p e other → IsWrite v other → HappensBefore p e w other → HappensBefore p e other r → ⊥

abbrev pub HappensBeforeConsistentAt : Prog → Exec → ℕ → Type 0
HappensBeforeConsistentAt p e id = (v : Var) (r : Action) (w : Act) → HasId e id r → IsRead v (Of r) → Sees e v (Of r) w → SeesByHappensBefore p e v (Of r) w

abbrev pub IsHappensBeforeConsistent : Prog → Exec → Type 0
IsHappensBeforeConsistent p e = (id : ℕ) → HappensBeforeConsistentAt p e id

-- ---- Clause 6: synchronization-order consistency (JLS 17.4.7); at the identifier of the volatile read

pub record SeesBySyncOrder (p : Prog) (e : Exec) (v : Var) (r w : Act) : Type 0 where
  pub not_later : SyncOrder p e r w → ⊥
  pub none_between : (other : Act) → IsAction p e other → IsWrite v other → SyncOrder p e w other → SyncOrder p e other r → ⊥

abbrev pub SyncOrderConsistentAt : Prog → Exec → ℕ → Type 0
SyncOrderConsistentAt p e id = (v : Var) (r : Action) (w : Act) → HasId e id r → Is VolatileRead (variable v) (Of r) → Sees e v (Of r) w → SeesBySyncOrder p e v (Of r) w

abbrev pub IsSyncOrderConsistent : Prog → Exec → Type 0
IsSyncOrderConsistent p e = (id : ℕ) → SyncOrderConsistentAt p e id

-- ---- Clauses 1 to 6

pub record IsWellFormed (p : Prog) (e : Exec) : Type 0 where
  pub shape : IsExecution e
  pub form : (id : ℕ) → FormAt p e id
  pub agrees : (id : ℕ) → AgreesAt p e id
  pub excludes : ExcludesMutually e
  pub intra_thread : IsIntraThreadConsistent p e
  pub happens_before : IsHappensBeforeConsistent p e
  pub sync_order : IsSyncOrderConsistent p e
