-- What follows from the definitions, and is stated by the functions of the module `laws`.
use Rattle.std.specs.Prelude.{◌≡◌, ◌≢◌, List}
use Rattle.class_format.specs.declared.record.ClassRecord.{ClassRecord}
use Rattle.program.specs.Program.{Prog}
use Rattle.linking.specs.Linking.{IsProgramOf}
use Rattle.linking.specs.Refusals.{IsRefusedFor}
use Rattle.linking.specs.declared.refusal.ProgramRefusal.{ProgramRefusal}
use Rattle.linking.specs.declared.refusal.ProgramRefusal.TheVariants.{Memory}

-- classes make at most one program
abbrev pub OneProgram : Type 0
OneProgram = (classes : List ClassRecord) (first second : Prog) → IsProgramOf classes first → IsProgramOf classes second → first ≡ second

-- classes meet at most one refusal but want of memory
abbrev pub OneRefusal : Type 0
OneRefusal = (classes : List ClassRecord) (first second : ProgramRefusal) → first ≢ Memory → second ≢ Memory →
    IsRefusedFor classes first → IsRefusedFor classes second → first ≡ second

-- classes that make a program meet no refusal but want of memory
abbrev pub ProgramOrRefusal : Type 0
ProgramOrRefusal = (classes : List ClassRecord) (p : Prog) (refusal : ProgramRefusal) → IsProgramOf classes p → refusal ≢ Memory →
    IsRefusedFor classes refusal → ⊥
