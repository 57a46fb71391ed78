-- What holds of the runs of linked programs, and is stated by the function of the module `laws`.
use Rattle.std.specs.Prelude.{ℕ, Bool, List}
use Rattle.class_format.specs.declared.record.ClassRecord.{ClassRecord}
use Rattle.linking.specs.Linking.{IsProgramOf}
use Rattle.program.specs.Program.{Prog}
use Rattle.program.specs.Run.{Move}
use Rattle.program.specs.Step.{Activation, IsEntry}
use Rattle.thread_meaning.specs.Outcomes.{NoneTwice}
use Rattle.thread_meaning.specs.Paths.{Leads}

-- no state that moves lead to from where a thread begins has two frames of one method
abbrev pub RunsArePlain : Type 0
RunsArePlain = (classes : List ClassRecord) (p : Prog) (k : ℕ) (ended : ℕ → Bool) (start s : List Activation) (moves : List Move) → IsProgramOf classes p →
    IsEntry p k start → Leads p ended start moves s → NoneTwice s
