-- What holds of the runs of linked programs, and is stated by the functions of the module `laws`.
use Rattle.std.specs.Prelude.{◌≢◌, ◌<◌, ℕ, ℤ, Bool, List, [], ◌∷◌, All, length}
use Rattle.class_format.specs.ClassText.{IsValid}
use Rattle.class_format.specs.declared.record.ClassRecord.{ClassRecord}
use Rattle.line_text.specs.declared.bounds.Bounds.{Bounds}
use Rattle.linking.specs.Linking.{IsProgramOf}
use Rattle.program.specs.Ints.{IsInt}
use Rattle.program.specs.Program.{Prog}
use Rattle.program.specs.Run.{Move}
use Rattle.program.specs.Step.{Activation, Effect, IsEntry, Step, shows}
use Rattle.program.specs.declared.event.Event.TheVariants.{Read}
use Rattle.thread_meaning.specs.Paths.{Leads}
use Rattle.thread_meaning.specs.Tracing.{IsNotLinked}
use Rattle.typed_runs.specs.Counts.{counts_after, nothing_held}
use Rattle.typed_runs.specs.Types.{AreTypedFrames}

-- each frame of each state of a run agrees with the typed state of its place
abbrev pub RunsAreTyped : Type 0
RunsAreTyped = (classes : List ClassRecord) (p : Prog) (k : ℕ) (ended : ℕ → Bool) (start s : List Activation) (moves : List Move) → IsProgramOf classes p →
    IsEntry p k start → Leads p ended start moves s → AreTypedFrames p s (counts_after start moves (nothing_held ∷ []))

-- a step leads on that reads nothing, or one for each int that is read
pub data GoesOn (p : Prog) (ended : ℕ → Bool) (s : List Activation) : Type 0 where
  steps : (effect : Effect) (t : List Activation) → Step p ended s effect t → GoesOn p ended s
  reads : (v : ℕ) (next : ℤ → List Activation) → ((n : ℤ) → IsInt n → Step p ended s (shows (Read v n) (n ∷ [])) (next n)) → GoesOn p ended s

-- from each state of a run but the end a step leads on
abbrev pub RunsGoOn : Type 0
RunsGoOn = (classes : List ClassRecord) (p : Prog) (k : ℕ) (ended : ℕ → Bool) (start s : List Activation) (moves : List Move) → All IsValid classes →
    IsProgramOf classes p → IsEntry p k start → Leads p ended start moves s → s ≢ [] → GoesOn p ended s

-- each thread has its entry, from each state but the end a step leads on, and no method is called within itself
abbrev pub TracesAreLinked : Type 0
TracesAreLinked = (classes : List ClassRecord) (p : Prog) (k : ℕ) (ended : ℕ → Bool) (reads : List ℤ) (bounds : Bounds) → All IsValid classes →
    IsProgramOf classes p → k < length p.threads → IsNotLinked p k ended reads bounds → ⊥
