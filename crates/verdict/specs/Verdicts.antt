-- What commands find out, before it is put to the output.
use Rattle.std.specs.Prelude.{◌≡◌, ℕ, List, false, Result, Ok, Err, ⊤}
use Rattle.class_files.specs.Input.{Contents, IsLinked}
use Rattle.class_files.specs.declared.linked.Linked.{Linked}
use Rattle.ports.specs.Growth.{SameContents}
use Rattle.verdict.specs.declared.answer.Answer.{Answer}
use Rattle.verdict.specs.declared.answer.Answer.TheVariants.{Decided, Shown}
use Rattle.verdict.specs.declared.decide.Verdict.{Verdict}
use Rattle.verdict.specs.declared.request.Question.{Question}
use Rattle.verdict.specs.declared.stop.Stop.{Stop}
use Rattle.verdict.specs.declared.stop.Stop.TheVariants.{WriteFault}
use Rattle.verdict.specs.Commands.{AsksDecide, AsksShow, IsWord, seq_place, show_classes}
use Rattle.verdict.specs.Judging.{IsDecided}

-- a verdict on a question about the class files that the words name, with the bounds and the budget of it
pub record IsVerdictOn (words : List (List ℕ)) (q : Question) (old new : Contents) (v : Verdict) : Type 0 where
  pub bounds : v.bounds ≡ q.bounds
  pub budget : v.budget ≡ q.budget
  pub seq : List ℕ
  pub is_seq : IsWord words seq_place seq
  pub decided : IsDecided words q old v.allowed v.whole (new seq)

-- a verdict on the question that the words ask
pub record IsVerdict (words : List (List ℕ)) (old new : Contents) (v : Verdict) : Type 0 where
  pub question : Question
  pub asks : AsksDecide words question
  pub verdict : IsVerdictOn words question old new v

-- the classes of the files that the words of `show` name, and the program that they make
pub record IsShow (words : List (List ℕ)) (old : Contents) (linked : Linked) : Type 0 where
  pub asks : AsksShow words
  pub is_linked : IsLinked words old show_classes linked

-- the answer that the words ask for
abbrev pub IsAnswer : List (List ℕ) → Contents → Contents → Answer → Type 0
IsAnswer words old new (Decided verdict) = IsVerdict words old new verdict
IsAnswer words old new (Shown linked) = IsShow words old linked

-- every content but that of SEQ is what it was
abbrev pub SameButSeq : List (List ℕ) → Contents → Contents → Type 0
SameButSeq words old new = (name : List ℕ) → (IsWord words seq_place name → ⊥) → new name ≡ old name

-- every content is what it was, but where the outcome is allowed or writing failed
abbrev pub DecideLeaves : Result Verdict Stop → Contents → Contents → Type 0
DecideLeaves (Ok v) old new = v.allowed ≡ false → SameContents old new
DecideLeaves (Err WriteFault) old new = ⊤
DecideLeaves (Err stop) old new = SameContents old new

-- the same of every command
abbrev pub AnswerLeaves : Result Answer Stop → Contents → Contents → Type 0
AnswerLeaves (Ok (Decided v)) old new = v.allowed ≡ false → SameContents old new
AnswerLeaves (Ok (Shown linked)) old new = SameContents old new
AnswerLeaves (Err WriteFault) old new = ⊤
AnswerLeaves (Err stop) old new = SameContents old new
