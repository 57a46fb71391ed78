-- What is asked of a program, and holds of each linked one.
use Rattle.std.specs.Prelude.{◌<◌, ℕ, ℤ, Bool, List, length}
use Rattle.line_text.specs.declared.bounds.Bounds.{Bounds}
use Rattle.program.specs.Program.{Prog}
use Rattle.program.specs.Run.{Move}
use Rattle.program.specs.Step.{Activation, IsEntry}
use Rattle.thread_meaning.specs.Outcomes.{NoneTwice}
use Rattle.thread_meaning.specs.Paths.{IsOrdered, Leads}
use Rattle.thread_meaning.specs.Tracing.{IsNotLinked}

-- no two methods have one name, and instructions stand by their places; no state of a run has two frames of one method; and a run
-- never stands where no step leads on, but at its end
pub record HasSoundRuns (p : Prog) : Type 0 where
  pub ordered : IsOrdered p
  pub plain : (k : ℕ) (ended : ℕ → Bool) (start s : List Activation) (moves : List Move) → IsEntry p k start → Leads p ended start moves s → NoneTwice s
  pub linked : (k : ℕ) (ended : ℕ → Bool) (reads : List ℤ) (bounds : Bounds) → k < length p.threads → IsNotLinked p k ended reads bounds → ⊥
