-- Runs are determined by their reads and by the threads that they find ended: the statements of the functions of the module `laws`.
use Rattle.std.specs.Prelude.{◌≡◌, ◌≢◌, ℕ, ℤ, Bool, List}
use Rattle.line_text.specs.declared.bounds.Bounds.{Bounds}
use Rattle.program.specs.Program.{Prog}
use Rattle.program.specs.Run.{Move, IsRun}
use Rattle.program.specs.Step.{Activation, Effect, Step}
use Rattle.program.specs.declared.event.Event.{Event}
use Rattle.thread_meaning.specs.Paths.{IsOrdered, read_in}
use Rattle.thread_meaning.specs.Tracing.{IsRefused, HasPlainRun}
use Rattle.thread_meaning.specs.declared.end.TraceEnd.{TraceEnd}
use Rattle.thread_meaning.specs.declared.end.TraceEnd.TheVariants.{Memory}

-- two steps from one state that read the same, if they read, are equal
abbrev pub OneStep : Type 0
OneStep = (p : Prog) (ended : ℕ → Bool) (s t u : List Activation) (e f : Effect) → IsOrdered p → Step p ended s e t → Step p ended s f u → read_in e ≡ read_in f → (e ≡ f) × (t ≡ u)

-- for given reads and ended threads there is at most one run
abbrev pub OneRun : Type 0
OneRun = (p : Prog) (k : ℕ) (ended : ℕ → Bool) (moves others : List Move) (reads : List ℤ) (events others_events : List Event) (printed others_printed : List ℤ) → IsOrdered p →
    IsRun p k ended moves reads events printed → IsRun p k ended others reads others_events others_printed →
    (moves ≡ others) × (events ≡ others_events) × (printed ≡ others_printed)

-- each refusal but that for want of memory comes only where there is no run in bounds with these reads that calls no method
-- within itself
abbrev pub RefusalsAreExact : Type 0
RefusalsAreExact = (p : Prog) (k : ℕ) (ended : ℕ → Bool) (reads : List ℤ) (bounds : Bounds) (e : TraceEnd) (events : List Event) (printed : List ℤ) → IsOrdered p → IsRefused p k ended reads bounds e → e ≢ Memory →
    HasPlainRun p k ended reads bounds events printed → ⊥
