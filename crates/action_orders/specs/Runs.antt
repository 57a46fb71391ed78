-- Intra-thread consistency (JLS 17.4.7): each thread that acts has the events of a run.
use Rattle.std.specs.Prelude.{◌≡◌, ◌&&◌, ℕ, Bool, true, false, nat_eq, zero, suc, ℤ, List, [], ◌∷◌, Some, slice_get, Contains, ⊤}
use Rattle.std.specs.List.{list_any}
use Rattle.program.specs.Program.{Prog}
use Rattle.program.specs.Run.{Move, IsRun}
use Rattle.program.specs.Bounds.{InBounds}
use Rattle.program.specs.declared.kind.Kind.{Kind}
use Rattle.program.specs.declared.kind.Kind.TheVariants as kind
use Rattle.program.specs.declared.program.Variable.{Variable}
use Rattle.program.specs.declared.event.Event.{Event}
use Rattle.program.specs.declared.event.Event.TheVariants.{First, Last, Read, Write, Lock, Unlock, Start, Detect, Print}
use Rattle.action_orders.specs.declared.action.ActionOperand.{ActionOperand}
use Rattle.action_orders.specs.declared.action.ActionOperand.TheVariants.{Monitor, Thread}
use Rattle.action_orders.specs.declared.action.Entry.{Entry}
use Rattle.action_orders.specs.declared.execution.ThreadPart.{ThreadPart}
use Rattle.action_orders.specs.Execution.{Exec}
use Rattle.action_orders.specs.Actions.{Act, Of, Var, Is, IsRead, IsWrite, IsAction, Sees, Stores, var_of}

-- the variable with this number
abbrev pub IsVariable : Prog → ℕ → Var → Type 0
IsVariable p n v = (declared : Variable) × (slice_get p.variables n ≡ Some declared) × (var_of declared ≡ v)

-- the monitor with this number
abbrev pub IsMonitor : Prog → ℕ → List ℕ → Type 0
IsMonitor p n class = slice_get p.monitors n ≡ Some class

-- the read r of the variable v sees a write of this value
abbrev pub Gets : Exec → Var → Act → ℤ → Type 0
Gets e v r value = (w : Act) × Sees e v r w × Stores e w value

-- an action has this event
abbrev pub HasEvent : Prog → Exec → Entry → Event → Type 0
HasEvent p e n First = n.action.kind ≡ kind.First
HasEvent p e n Last = n.action.kind ≡ kind.Last
HasEvent p e n (Read number value) = (v : Var) × IsVariable p number v × IsRead v (Of n.action) × Gets e v (Of n.action) value
HasEvent p e n (Write number value) = (v : Var) × IsVariable p number v × IsWrite v (Of n.action) × Stores e (Of n.action) value
HasEvent p e n (Lock number) = (class : List ℕ) × IsMonitor p number class × Is kind.Lock (Monitor class) (Of n.action)
HasEvent p e n (Unlock number) = (class : List ℕ) × IsMonitor p number class × Is kind.Unlock (Monitor class) (Of n.action)
HasEvent p e n (Start k) = Is kind.Start (Thread k) (Of n.action)
HasEvent p e n (Detect k) = Is kind.Detect (Thread k) (Of n.action)
-- the value of a print is free: it is no part of the action
HasEvent p e n (Print value) = n.action.kind ≡ kind.Print

-- the actions in order have these events in order
abbrev pub HaveEvents : Prog → Exec → List Entry → List Event → Type 0
HaveEvents p e [] [] = ⊤
HaveEvents p e (n ∷ ns) (v ∷ vs) = HasEvent p e n v × HaveEvents p e ns vs
HaveEvents p e [] (v ∷ vs) = ⊥
HaveEvents p e (n ∷ ns) [] = ⊥

-- whether an action detects the end of thread k (JLS 17.4.2)
abbrev pub is_detect : Kind → Bool
is_detect kind.Detect = true
is_detect _ = false

abbrev pub is_thread : ℕ → ActionOperand → Bool
is_thread k (Thread j) = nat_eq j k
is_thread k _ = false

abbrev pub is_detection : ℕ → Entry → Bool
is_detection k n = is_detect n.action.kind && is_thread k n.action.operand

-- the threads of which a thread has a detection: its isAlive calls find these ended, so that its actions fix the answers
abbrev pub detects : List Entry → ℕ → Bool
detects entries k = list_any (is_detection k) entries

-- a run of the thread that has its actions as events, in order, and prints these values. The values that its reads give are
-- those of the writes that they see, since each read's event is matched so
pub record RunsAs (p : Prog) (e : Exec) (t : ThreadPart) (moves : List Move) (printed : List ℤ) : Type 0 where
  pub reads : List ℤ
  pub events : List Event
  pub run : IsRun p t.thread (detects t.entries) moves reads events printed
  pub matched : HaveEvents p e t.entries events

pub record HasRun (p : Prog) (e : Exec) (t : ThreadPart) : Type 0 where
  pub moves : List Move
  pub printed : List ℤ
  pub runs : RunsAs p e t moves printed

-- a run in bounds
pub record HasRunWithin (p : Prog) (e : Exec) (jumps width : ℕ) (t : ThreadPart) : Type 0 where
  pub moves : List Move
  pub printed : List ℤ
  pub runs : RunsAs p e t moves printed
  pub within : InBounds moves jumps width

-- the thread acts
abbrev pub Acts : Exec → ℕ → Type 0
Acts e k = (t : ThreadPart) × Contains e.threads t × (t.thread ≡ k)

-- some action starts the thread
abbrev pub IsStarted : Prog → Exec → ℕ → Type 0
IsStarted p e k = (a : Act) × IsAction p e a × Is kind.Start (Thread k) a

-- who acts: main does, and another thread exactly where it is started (main's start is the project's own reading)
abbrev pub ActsRightly : Prog → Exec → ℕ → Type 0
ActsRightly p e zero = Acts e zero
ActsRightly p e (suc k) = (Acts e (suc k) → IsStarted p e (suc k)) × (IsStarted p e (suc k) → Acts e (suc k))

-- intra-thread consistency of one thread
pub record IntraThreadAt (p : Prog) (e : Exec) (k : ℕ) : Type 0 where
  pub acts : ActsRightly p e k
  pub runs : (t : ThreadPart) → Contains e.threads t → t.thread ≡ k → HasRun p e t

abbrev pub IsIntraThreadConsistent : Prog → Exec → Type 0
IsIntraThreadConsistent p e = (k : ℕ) → IntraThreadAt p e k

-- the run of one thread is in bounds
abbrev pub WithinAt : Prog → Exec → ℕ → ℕ → ℕ → Type 0
WithinAt p e jumps width k = (t : ThreadPart) → Contains e.threads t → t.thread ≡ k → HasRunWithin p e jumps width t

-- the run of each thread that acts is in bounds
abbrev pub IsWithin : Prog → Exec → ℕ → ℕ → Type 0
IsWithin p e jumps width = (k : ℕ) → WithinAt p e jumps width k

-- the thread acts and prints exactly these values
pub record Prints (p : Prog) (e : Exec) (k : ℕ) (printed : List ℤ) : Type 0 where
  pub part : ThreadPart
  pub acts : Contains e.threads part
  pub thread : part.thread ≡ k
  pub moves : List Move
  pub runs : RunsAs p e part moves printed
