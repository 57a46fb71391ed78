-- Outcomes that a program may show.
use Rattle.std.specs.Prelude.{List, All}
use Rattle.line_text.specs.declared.outcome.OutcomePart.{OutcomePart}
use Rattle.line_text.specs.declared.bounds.Bounds.{Bounds}
use Rattle.program.specs.Program.{Prog}
use Rattle.action_orders.specs.declared.sequence.SequenceStep.{SequenceStep}
use Rattle.action_orders.specs.Execution.{Exec}
use Rattle.action_orders.specs.Runs.{Prints, IsWithin}
use Rattle.action_orders.specs.WellFormed.{IsWellFormed}
use Rattle.action_orders.specs.Causality.{Commits}

-- each thread that the outcome names acts, and prints exactly the values that the outcome lists for it
abbrev pub Shows : Prog → Exec → List OutcomePart → Type 0
Shows p e o = All (λ part. Prints p e part.thread part.values) o

-- the executions of a sequence are well-formed
abbrev pub AreWellFormed : Prog → List SequenceStep → Type 0
AreWellFormed p s = All (λ step. IsWellFormed p step.execution) s

-- their runs are in bounds
abbrev pub AreWithin : Prog → List SequenceStep → Bounds → Type 0
AreWithin p s bounds = All (λ step. IsWithin p step.execution bounds.jumps bounds.width) s

-- an execution with a committing sequence shows the outcome
pub record Justifies (p : Prog) (o : List OutcomePart) (execution : Exec) (sequence : List SequenceStep) : Type 0 where
  pub well_formed : IsWellFormed p execution
  pub each_well_formed : AreWellFormed p sequence
  pub commits : Commits p execution sequence
  pub shows : Shows p execution o

-- the same within bounds
pub record JustifiesWithin (p : Prog) (o : List OutcomePart) (bounds : Bounds) (execution : Exec) (sequence : List SequenceStep) : Type 0 where
  pub justifies : Justifies p o execution sequence
  pub within : IsWithin p execution bounds.jumps bounds.width
  pub each_within : AreWithin p sequence bounds

-- the outcome is possible: some execution shows it and has a committing sequence, of any length
pub record IsPossible (p : Prog) (o : List OutcomePart) : Type 0 where
  pub execution : Exec
  pub sequence : List SequenceStep
  pub justified : Justifies p o execution sequence

-- the outcome is possible within bounds
pub record IsPossibleWithin (p : Prog) (o : List OutcomePart) (bounds : Bounds) : Type 0 where
  pub execution : Exec
  pub sequence : List SequenceStep
  pub justified : JustifiesWithin p o bounds execution sequence

-- what is possible within bounds is possible
abbrev pub BoundsOnlyNarrow : Type 0
BoundsOnlyNarrow = (p : Prog) (o : List OutcomePart) (bounds : Bounds) → IsPossibleWithin p o bounds → IsPossible p o
