-- The trace of a thread: its run, or why there is none in bounds.
use Rattle.std.specs.Prelude.{◌≡◌, ◌≢◌, ◌<◌, ◌≤◌, ◌+◌, ◌++◌, ◌⊎◌, ◌/◌, ◌%◌, ◌^◌, ℕ, ℤ, Bool, nat_eq, true, List, [], ◌∷◌, Option, None, Result, Ok, Err, All, length, count_by, slice_get, if◌then◌else◌}
use Rattle.std.specs.List.{cons_option}
use Rattle.std.specs.Option.{option_and_then}
use Rattle.java_int.specs.JavaInt.{Fits}
use Rattle.line_text.specs.declared.bounds.Bounds.{Bounds}
use Rattle.program.specs.Bounds.{InBounds}
use Rattle.program.specs.Program.{Prog}
use Rattle.program.specs.Run.{Move, IsRun, printed_of}
use Rattle.program.specs.Step.{Activation, Effect, Step, IsEntry}
use Rattle.program.specs.declared.event.Event.{Event}
use Rattle.program.specs.declared.event.Event.TheVariants as event
use Rattle.thread_meaning.specs.Outcomes.{NoStep, CallsItself, NextReads, NoneTwice, Stepped}
use Rattle.thread_meaning.specs.Paths.{Leads, read_in, reads_of}
use Rattle.thread_meaning.specs.declared.end.TraceEnd.{TraceEnd}
use Rattle.thread_meaning.specs.declared.end.TraceEnd.TheVariants as end
use Rattle.thread_meaning.specs.declared.walk.Trace.{Trace}
use Rattle.thread_meaning.specs.declared.walk.Walk.{Walk}

-- ---- The answers

-- the threads of a set of bits: bit k stands for thread k
abbrev pub has_ended : ℕ → ℕ → Bool
has_ended ended k = nat_eq (ended / 2 ^ k % 2) 1

-- thread k has a run that reads these values and finds these threads ended, and it is in bounds
pub record HasRun (p : Prog) (k : ℕ) (ended : ℕ → Bool) (reads : List ℤ) (bounds : Bounds) (events : List Event) (printed : List ℤ) : Type 0 where
  pub moves : List Move
  pub run : IsRun p k ended moves reads events printed
  pub in_bounds : InBounds moves bounds.jumps bounds.width

-- these moves lead from where thread k begins to this state, in bounds, and leave these of the values
pub record Arrives (p : Prog) (k : ℕ) (ended : ℕ → Bool) (reads : List ℤ) (bounds : Bounds) (moves : List Move) (s : List Activation) (left : List ℤ) : Type 0 where
  pub start : List Activation
  pub entry : IsEntry p k start
  pub leads : Leads p ended start moves s
  pub reads_are : reads ≡ reads_of moves ++ left
  pub in_bounds : InBounds moves bounds.jumps bounds.width

-- the next step is a read, and all values are used
pub record IsReadsShort (p : Prog) (k : ℕ) (ended : ℕ → Bool) (reads : List ℤ) (bounds : Bounds) : Type 0 where
  pub moves : List Move
  pub state : List Activation
  pub arrives : Arrives p k ended reads bounds moves state []
  pub next : NextReads p state

-- the run has ended with this many values left
pub record IsReadsLeft (p : Prog) (k : ℕ) (ended : ℕ → Bool) (reads : List ℤ) (bounds : Bounds) (count : ℕ) : Type 0 where
  pub moves : List Move
  pub left : List ℤ
  pub arrives : Arrives p k ended reads bounds moves [] left
  pub count_is : count ≡ length left
  pub some : 0 < count

-- the next step is a backward jump, and all of them are used
pub record IsPastJumps (p : Prog) (k : ℕ) (ended : ℕ → Bool) (reads : List ℤ) (bounds : Bounds) : Type 0 where
  pub moves : List Move
  pub state : List Activation
  pub left : List ℤ
  pub effect : Effect
  pub next : List Activation
  pub arrives : Arrives p k ended reads bounds moves state (cons_option (read_in effect) left)
  pub step : Step p ended state effect next
  pub backward : effect.backward ≡ true
  pub used : count_by (λ m. m.effect.backward) moves ≡ bounds.jumps

-- the next step pushes or stores an int that is too wide
pub record IsPastWidth (p : Prog) (k : ℕ) (ended : ℕ → Bool) (reads : List ℤ) (bounds : Bounds) : Type 0 where
  pub moves : List Move
  pub state : List Activation
  pub left : List ℤ
  pub effect : Effect
  pub next : List Activation
  pub arrives : Arrives p k ended reads bounds moves state (cons_option (read_in effect) left)
  pub step : Step p ended state effect next
  pub wide : All (Fits bounds.width) effect.ints → ⊥

-- the thread has no method, or no step leads on from a state that isn't the end, or a method is called within itself
pub data IsNotLinked (p : Prog) (k : ℕ) (ended : ℕ → Bool) (reads : List ℤ) (bounds : Bounds) : Type 0 where
  no_entry : ((s : List Activation) → IsEntry p k s → ⊥) → IsNotLinked p k ended reads bounds
  no_step : (moves : List Move) (s : List Activation) (left : List ℤ) → Arrives p k ended reads bounds moves s left → s ≢ [] → NoStep p ended s → IsNotLinked p k ended reads bounds
  within : (moves : List Move) (s : List Activation) (left : List ℤ) → Arrives p k ended reads bounds moves s left → CallsItself p s → IsNotLinked p k ended reads bounds

-- why thread k has no run that reads these values, is in bounds and calls no method within itself; want of memory alone is free
abbrev pub IsRefused : Prog → ℕ → (ℕ → Bool) → List ℤ → Bounds → TraceEnd → Type 0
IsRefused p k ended reads bounds end.ReadsShort = IsReadsShort p k ended reads bounds
IsRefused p k ended reads bounds (end.ReadsLeft count) = IsReadsLeft p k ended reads bounds count
IsRefused p k ended reads bounds end.PastJumps = IsPastJumps p k ended reads bounds
IsRefused p k ended reads bounds end.PastWidth = IsPastWidth p k ended reads bounds
IsRefused p k ended reads bounds end.NotLinked = IsNotLinked p k ended reads bounds
IsRefused p k ended reads bounds end.Memory = Unit {0}

-- no state of these moves runs a method twice
abbrev pub NeverTwice : List Move → Type 0
NeverTwice moves = All (λ m. NoneTwice m.state) moves

-- a run in bounds that calls no method within itself
pub record HasPlainRun (p : Prog) (k : ℕ) (ended : ℕ → Bool) (reads : List ℤ) (bounds : Bounds) (events : List Event) (printed : List ℤ) : Type 0 where
  pub moves : List Move
  pub run : IsRun p k ended moves reads events printed
  pub in_bounds : InBounds moves bounds.jumps bounds.width
  pub never_twice : NeverTwice moves

-- where there is such a run, the answer is that run; want of memory alone is free
abbrev pub FindsRun : Prog → ℕ → (ℕ → Bool) → List ℤ → Bounds → Result Trace TraceEnd → Type 0
FindsRun p k ended reads bounds (Ok t) = (events : List Event) (printed : List ℤ) → HasPlainRun p k ended reads bounds events printed → (t.events ≡ events) × (t.printed ≡ printed)
FindsRun p k ended reads bounds (Err e) = (events : List Event) (printed : List ℤ) → HasPlainRun p k ended reads bounds events printed → e ≡ end.Memory

-- ---- The walk along the run

-- the value that a step prints, if it prints one
abbrev pub printed_in : Effect → Option ℤ
printed_in effect = option_and_then printed_of effect.event

abbrev pub list_of : {X : Type 0} → Option X → List X
list_of o = cons_option o []

-- where a walk stands before its first step
pub record Starts (p : Prog) (k : ℕ) (bounds : Bounds) (w : Walk) : Type 0 where
  pub entry : IsEntry p k w.frames
  pub events : w.events ≡ event.First ∷ []
  pub printed : w.printed ≡ []
  pub used : w.used ≡ 0
  pub jumps : w.jumps ≡ bounds.jumps

abbrev pub CannotStart : Prog → ℕ → TraceEnd → Type 0
CannotStart p k end.NotLinked = (s : List Activation) → IsEntry p k s → ⊥
CannotStart p k end.Memory = Unit {0}
CannotStart p k _ = ⊥

-- what a step did is noted
pub record Noted (effect : Effect) (w v : Walk) : Type 0 where
  pub frames : v.frames ≡ w.frames
  pub jumps : v.jumps ≡ w.jumps
  pub events : v.events ≡ w.events ++ list_of effect.event
  pub printed : v.printed ≡ w.printed ++ list_of (printed_in effect)
  pub used : v.used ≡ w.used + length (list_of (read_in effect))

-- one step further in bounds
pub record Advances (p : Prog) (ended : ℕ → Bool) (reads : List ℤ) (bounds : Bounds) (w v : Walk) : Type 0 where
  pub effect : Effect
  pub stepped : Stepped p ended w.frames (slice_get reads w.used) effect v.frames
  pub narrow : All (Fits bounds.width) effect.ints
  pub jumps : v.jumps + (if effect.backward then 1 else 0) ≡ w.jumps
  pub events : v.events ≡ w.events ++ list_of effect.event
  pub printed : v.printed ≡ w.printed ++ list_of (printed_in effect)
  pub used : v.used ≡ w.used + length (list_of (read_in effect))

-- a step that would leave the bounds
pub record PassesJumps (p : Prog) (ended : ℕ → Bool) (reads : List ℤ) (w : Walk) : Type 0 where
  pub effect : Effect
  pub next : List Activation
  pub stepped : Stepped p ended w.frames (slice_get reads w.used) effect next
  pub backward : effect.backward ≡ true
  pub used : w.jumps ≡ 0

pub record PassesWidth (p : Prog) (ended : ℕ → Bool) (reads : List ℤ) (bounds : Bounds) (w : Walk) : Type 0 where
  pub effect : Effect
  pub next : List Activation
  pub stepped : Stepped p ended w.frames (slice_get reads w.used) effect next
  pub wide : All (Fits bounds.width) effect.ints → ⊥

-- why a walk can't go one step further
abbrev pub Stops : Prog → (ℕ → Bool) → List ℤ → Bounds → Walk → TraceEnd → Type 0
Stops p ended reads bounds w end.ReadsShort = (slice_get reads w.used ≡ None) × NextReads p w.frames
Stops p ended reads bounds w end.PastJumps = PassesJumps p ended reads w
Stops p ended reads bounds w end.PastWidth = PassesWidth p ended reads bounds w
Stops p ended reads bounds w end.NotLinked = NoStep p ended w.frames ⊎ CallsItself p w.frames
Stops p ended reads bounds w end.Memory = Unit {0}
Stops p ended reads bounds w (end.ReadsLeft count) = ⊥

-- the end of a walk, with this many values given
abbrev pub Ends : ℕ → Walk → TraceEnd → Type 0
Ends given w (end.ReadsLeft count) = (w.used < given) × (w.used + count ≡ given)
Ends given w end.Memory = Unit {0}
Ends given w _ = ⊥

-- all values are used, and the run has its last event
pub record Finishes (given : ℕ) (w : Walk) (t : Trace) : Type 0 where
  pub all : given ≤ w.used
  pub events : t.events ≡ w.events ++ event.Last ∷ []
  pub printed : t.printed ≡ w.printed
