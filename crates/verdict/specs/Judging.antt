-- What an answer says of the program and the question.
use Rattle.std.specs.Prelude.{◌≡◌, ◌↔◌, ℕ, ℤ, Bool, true, false, List, Option, Result, Ok, Err, IsTrue, All, ⊤}
use Rattle.line_text.specs.declared.outcome.OutcomePart.{OutcomePart}
use Rattle.program.specs.Bounds.{IsWhole}
use Rattle.program.specs.Program.{Prog}
use Rattle.action_orders.specs.Execution.{Exec}
use Rattle.action_orders.specs.Verdict.{JustifiesWithin, IsPossibleWithin}
use Rattle.action_orders.specs.declared.sequence.SequenceStep.{SequenceStep}
use Rattle.class_files.specs.Input.{Contents, IsLinked}
use Rattle.class_files.specs.declared.linked.Linked.{Linked}
use Rattle.ports.specs.Growth.{IsTold, SameContents}
use Rattle.sequence_text.specs.SequenceText.{sequence_text}
use Rattle.java_int.specs.JavaInt.{Fits}
use Rattle.straight.specs.declared.run.StraightRun.{StraightRun}
use Rattle.straight_check.specs.StraightProgram.{IsStraightProgram}
use Rattle.verdict.specs.declared.request.Question.{Question}
use Rattle.verdict.specs.declared.stop.Stop.{Stop}
use Rattle.verdict.specs.declared.stop.Stop.TheVariants.{WriteFault}
use Rattle.verdict.specs.Commands.{decide_classes}

-- each thread that the outcome names is main, with these values
abbrev pub NamesMain : List OutcomePart → List ℤ → Type 0
NamesMain outcome printed = All (λ part. (part.thread ≡ 0) × (part.values ≡ printed)) outcome

-- the ints of the run have the width, and main prints what the outcome says
pub record ShowsOutcome (q : Question) (run : StraightRun) : Type 0 where
  pub fit : All (Fits q.bounds.width) run.ints
  pub prints : NamesMain q.outcome run.printed

-- the content, where it is told, is the text of an execution that shows the outcome within the bounds, with a sequence that
-- commits it
pub record IsShown (p : Prog) (q : Question) (content : Option (List ℕ)) : Type 0 where
  pub execution : Exec
  pub sequence : List SequenceStep
  pub justified : JustifiesWithin p q.outcome q.bounds execution sequence
  pub text : IsTold (sequence_text execution sequence) content

-- allowed: it is shown; forbidden: no execution with a committing sequence of any length shows it within the bounds
abbrev pub IsJudged : Prog → Question → Bool → Option (List ℕ) → Type 0
IsJudged p q true content = IsShown p q content
IsJudged p q false content = IsPossibleWithin p q.outcome q.bounds → ⊥

-- the answer to a question on the class files that the words name, whose program is straight, with the content of SEQ
pub record IsDecided (words : List (List ℕ)) (q : Question) (old : Contents) (allowed whole : Bool) (content : Option (List ℕ)) : Type 0 where
  pub linked : Linked
  pub is_linked : IsLinked words old decide_classes linked
  pub straight : IsStraightProgram linked.program
  pub whole_is : IsTrue whole ↔ IsWhole linked.program q.bounds.jumps q.bounds.width
  pub judged : IsJudged linked.program q allowed content

-- no file has changed, but where the outcome is allowed or writing failed
abbrev pub Untouched : Result Bool Stop → Contents → Contents → Type 0
Untouched (Ok true) old new = ⊤
Untouched (Err WriteFault) old new = ⊤
Untouched result old new = SameContents old new
