-- What is put to the output at the end.
use Rattle.std.specs.Prelude.{◌≡◌, ℕ, List, Bool, true, false, Option, Result, Ok, Err}
use Rattle.ports.specs.Faults.{Rose}
use Rattle.ports.specs.Growth.{Grows}
use Rattle.program_listing.specs.ListingText.{listing_text}
use Rattle.verdict.specs.declared.answer.Answer.{Answer}
use Rattle.verdict.specs.declared.answer.Answer.TheVariants as answer
use Rattle.verdict.specs.declared.decide.Verdict.{Verdict}
use Rattle.verdict.specs.declared.status.Status.{Status}
use Rattle.verdict.specs.declared.status.Status.TheVariants.{Allowed, Forbidden, Shown, WriteFault}
use Rattle.verdict.specs.declared.stop.Stop.{Stop}
use Rattle.verdict.specs.OutputText.{verdict_lines}
use Rattle.verdict.specs.Stops.{status_of_stop, stop_line}

-- the text was put whole and this is the status, or writing failed
pub data PutsText (text : List ℕ) (status result : Status) (old new : Option (List ℕ)) (faults_old faults_new : ℕ) : Type 0 where
  whole : result ≡ status → Grows old new text → PutsText text status result old new faults_old faults_new
  failed : result ≡ WriteFault → Rose faults_old faults_new → PutsText text status result old new faults_old faults_new

-- the status of a verdict
abbrev pub status_of_verdict : Bool → Status
status_of_verdict true = Allowed
status_of_verdict false = Forbidden

-- the text of a verdict
abbrev pub verdict_text : Verdict → List ℕ
verdict_text v = verdict_lines v.allowed v.bounds v.whole v.budget

-- the text of an answer
abbrev pub answer_text : Answer → List ℕ
answer_text (answer.Decided verdict) = verdict_text verdict
answer_text (answer.Shown linked) = listing_text linked.classes linked.program

-- the status of an answer
abbrev pub status_of_answer : Answer → Status
status_of_answer (answer.Decided verdict) = status_of_verdict verdict.allowed
status_of_answer (answer.Shown linked) = Shown

-- the text of an answer, or why there is none
abbrev pub text_of : Result Answer Stop → List ℕ
text_of (Ok answer) = answer_text answer
text_of (Err stop) = stop_line stop

-- and its status
abbrev pub status_of : Result Answer Stop → Status
status_of (Ok answer) = status_of_answer answer
status_of (Err stop) = status_of_stop stop
