-- What ends a command before its answer, each with its cause; want of memory has none.
use Rattle.std.specs.Prelude.{ℕ, List, [], ⊤, ◌⊎◌}
use Rattle.class_files.specs.Input.{Contents, IsInputRefusal, IsLinked}
use Rattle.class_files.specs.declared.linked.Linked.{Linked}
use Rattle.class_files.specs.declared.refusal.InputRefusal.{InputRefusal}
use Rattle.class_files.specs.declared.refusal.InputRefusal.TheVariants as input
use Rattle.line_text.specs.CommandLine.{IsUsageAt}
use Rattle.linking.specs.declared.refusal.ProgramRefusal.{ProgramRefusal}
use Rattle.linking.specs.declared.refusal.ProgramRefusal.TheVariants as program
use Rattle.ports.specs.Faults.{Rose}
use Rattle.straight_check.specs.StraightProgram.{IsStraightProgram}
use Rattle.verdict.specs.Commands.{AsksDecide, AsksUnbuilt, NamesClasses, decide_classes}
use Rattle.verdict.specs.OutputText.{input_line, not_built_line, usage_line}
use Rattle.verdict.specs.declared.request.Question.{Question}
use Rattle.verdict.specs.declared.status.Status.{Status}
use Rattle.verdict.specs.declared.status.Status.TheVariants as status
use Rattle.verdict.specs.declared.stop.Stop.{Stop}
use Rattle.verdict.specs.declared.stop.Stop.TheVariants.{Usage, Input, NotBuilt, WriteFault, Memory}

-- ---- Causes

-- `decide` is asked for, the class files make a program, and it is not straight
pub record IsNotStraight (words : List (List ℕ)) (old : Contents) : Type 0 where
  pub question : Question
  pub asks : AsksDecide words question
  pub linked : Linked
  pub is_linked : IsLinked words old decide_classes linked
  pub not_straight : IsStraightProgram linked.program → ⊥

-- not built: another command is asked for, or the program is not straight
abbrev pub IsNotBuilt : List (List ℕ) → Contents → Type 0
IsNotBuilt words old = AsksUnbuilt words ⊎ IsNotStraight words old

-- the class files that the words name make no program
pub record IsNoInput (words : List (List ℕ)) (old : Contents) (reads_old reads_new : ℕ) (refusal : InputRefusal) : Type 0 where
  pub from : ℕ
  pub names : NamesClasses words from
  pub reason : IsInputRefusal words old from reads_old reads_new refusal

-- why there is no program
abbrev pub IsUnlinkedStop : List (List ℕ) → Contents → ℕ → ℕ → Stop → Type 0
IsUnlinkedStop words old reads_old reads_new (Usage word) = ⊥
IsUnlinkedStop words old reads_old reads_new (Input refusal) = IsNoInput words old reads_old reads_new refusal
IsUnlinkedStop words old reads_old reads_new NotBuilt = ⊥
IsUnlinkedStop words old reads_old reads_new WriteFault = ⊥
IsUnlinkedStop words old reads_old reads_new Memory = ⊤

-- why a command has no answer
abbrev pub IsStopped : List (List ℕ) → Contents → ℕ → ℕ → ℕ → ℕ → Stop → Type 0
IsStopped words old reads_old reads_new writes_old writes_new (Usage word) = IsUsageAt words word
IsStopped words old reads_old reads_new writes_old writes_new (Input refusal) = IsNoInput words old reads_old reads_new refusal
IsStopped words old reads_old reads_new writes_old writes_new NotBuilt = IsNotBuilt words old
IsStopped words old reads_old reads_new writes_old writes_new WriteFault = Rose writes_old writes_new
IsStopped words old reads_old reads_new writes_old writes_new Memory = ⊤

-- why words ask for nothing
abbrev pub IsUnasked : List (List ℕ) → Stop → Type 0
IsUnasked words (Usage word) = IsUsageAt words word
IsUnasked words (Input refusal) = ⊥
IsUnasked words NotBuilt = ⊥
IsUnasked words WriteFault = ⊥
IsUnasked words Memory = ⊤

-- why SEQ was not written
abbrev pub IsUnwritten : ℕ → ℕ → Stop → Type 0
IsUnwritten faults_old faults_new (Usage word) = ⊥
IsUnwritten faults_old faults_new (Input refusal) = ⊥
IsUnwritten faults_old faults_new NotBuilt = ⊥
IsUnwritten faults_old faults_new WriteFault = Rose faults_old faults_new
IsUnwritten faults_old faults_new Memory = ⊤

-- ---- What is told of them

-- the line of a stop; none after a fault of writing, and none where memory ran out
abbrev pub stop_line : Stop → List ℕ
stop_line (Usage word) = usage_line word
stop_line (Input refusal) = input_line refusal
stop_line NotBuilt = not_built_line
stop_line WriteFault = []
stop_line Memory = []

-- the status of classes that make no program
abbrev pub status_of_program : ProgramRefusal → Status
status_of_program (program.Class kind class) = status.Refused
status_of_program (program.Code kind method pc detail) = status.Refused
status_of_program (program.Typing kind method pc) = status.Refused
status_of_program (program.Limit kind) = status.Limit
status_of_program program.Memory = status.Memory

-- the status of class files that make none
abbrev pub status_of_input : InputRefusal → Status
status_of_input (input.ReadFault word) = status.ReadFault
status_of_input (input.TooLong word) = status.Limit
status_of_input (input.Format word kind place) = status.Refused
status_of_input (input.Program refusal) = status_of_program refusal
status_of_input input.Memory = status.Memory

-- the status of a stop
abbrev pub status_of_stop : Stop → Status
status_of_stop (Usage word) = status.Usage
status_of_stop (Input refusal) = status_of_input refusal
status_of_stop NotBuilt = status.Refused
status_of_stop WriteFault = status.WriteFault
status_of_stop Memory = status.Memory
