-- What is proved of all executions of a straight program.
use Rattle.std.specs.Prelude.{◌≡◌, ◌↔◌, ℕ, ℤ, List, [], ◌∷◌, All, Contains, Some, slice_get}
use Rattle.java_int.specs.JavaInt.{Fits}
use Rattle.line_text.specs.declared.bounds.Bounds.{Bounds}
use Rattle.line_text.specs.declared.outcome.OutcomePart.{OutcomePart}
use Rattle.program.specs.Bounds.{IsWhole}
use Rattle.program.specs.Program.{Prog}
use Rattle.program.specs.Run.{Move}
use Rattle.program.specs.Straight.{IsStraight}
use Rattle.action_orders.specs.declared.action.Entry.{Entry}
use Rattle.action_orders.specs.declared.execution.ThreadPart.{ThreadPart}
use Rattle.action_orders.specs.Execution.{Exec}
use Rattle.action_orders.specs.Actions.{Act, Of, Var, IsAction, IsRead, Sees}
use Rattle.action_orders.specs.HappensBefore.{HappensBefore}
use Rattle.action_orders.specs.Laws.{IsEarlier}
use Rattle.action_orders.specs.Runs.{RunsAs, Prints, IsWithin}
use Rattle.action_orders.specs.Verdict.{IsPossibleWithin}
use Rattle.action_orders.specs.WellFormed.{IsWellFormed}
use Rattle.straight.specs.Meaning.{printed_of, ints_of}
use Rattle.straight_executions.specs.LastWrites.{IsLastWrite}
use Rattle.straight_executions.specs.OneRun.{IsOneRun}

-- main acts, and no other thread does
pub record IsMainAlone (e : Exec) : Type 0 where
  pub main : ThreadPart
  pub threads : e.threads ≡ main ∷ []
  pub is_main : main.thread ≡ 0

abbrev pub OneThreadActs : Type 0
OneThreadActs = (p : Prog) (e : Exec) → IsStraight p → IsWellFormed p e → IsMainAlone e

-- happens-before is main's program order, and each default write before each of its actions
abbrev pub OrderIsEarlier : Type 0
OrderIsEarlier = (p : Prog) (e : Exec) (t : ThreadPart) (x y : Act) → IsStraight p → IsWellFormed p e → Contains e.threads t →
    HappensBefore p e x y ↔ (IsAction p e x × IsEarlier p t x y)

-- the read at a place of main's list sees the last write to its variable before that place
abbrev pub ReadsSeeLastWrites : Type 0
ReadsSeeLastWrites = (p : Prog) (e : Exec) (t : ThreadPart) (place : ℕ) (n : Entry) (v : Var) (w : Act) → IsStraight p → IsWellFormed p e → Contains e.threads t →
    slice_get t.entries place ≡ Some n → IsRead v (Of n.action) → Sees e v (Of n.action) w → IsLastWrite t.entries place v w

-- each run of main that has the events of its actions is the one run
abbrev pub RunsAreOne : Type 0
RunsAreOne = (p : Prog) (h : IsStraight p) (e : Exec) (t : ThreadPart) (moves : List Move) (printed : List ℤ) → IsWellFormed p e → Contains e.threads t → RunsAs p e t moves printed →
    IsOneRun p h.main moves printed

-- ---- What follows for outcomes and bounds

-- main prints the values of the walk, and no other thread prints
abbrev pub StraightPrintsOnce : Type 0
StraightPrintsOnce = (p : Prog) (h : IsStraight p) (e : Exec) (k : ℕ) (values : List ℤ) → IsWellFormed p e → Prints p e k values → (k ≡ 0) × (values ≡ printed_of p h.main)

-- an execution in bounds has ints of the width
abbrev pub StraightIntsFit : Type 0
StraightIntsFit = (p : Prog) (h : IsStraight p) (e : Exec) (jumps width : ℕ) → IsWellFormed p e → IsWithin p e jumps width → All (Fits width) (ints_of p h.main)

-- an outcome that is possible names main alone, with the values of the walk, whose ints have the width
abbrev pub StraightForbids : Type 0
StraightForbids = (p : Prog) (h : IsStraight p) (o : List OutcomePart) (bounds : Bounds) → IsPossibleWithin p o bounds →
    All (Fits bounds.width) (ints_of p h.main) × All (λ part. (part.thread ≡ 0) × (part.values ≡ printed_of p h.main)) o

-- the bounds leave nothing out exactly where the width is that of an int, since no jump is there to count
abbrev pub StraightIsWhole : Type 0
StraightIsWhole = (p : Prog) (jumps width : ℕ) → IsStraight p → IsWhole p jumps width ↔ (width ≡ 32)
