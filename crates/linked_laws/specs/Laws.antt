-- What holds of linked programs, and is stated by the functions of the module `laws`.
use Rattle.std.specs.Prelude.{◌≢◌, ◌≤◌, List, All, AllPairs, Contains, length}
use Rattle.relations.specs.Path.{Path}
use Rattle.class_format.specs.declared.record.ClassRecord.{ClassRecord}
use Rattle.program.specs.Names.{IsName}
use Rattle.program.specs.Program.{Prog, IsSpeltVariable}
use Rattle.program.specs.Straight.{AreApart}
use Rattle.program.specs.declared.method.Method.{Method}
use Rattle.program.specs.declared.method.MethodId.{MethodId}
use Rattle.linking.specs.Linking.{IsProgramOf}
use Rattle.thread_meaning.specs.Paths.{IsOrdered}
use Rattle.linked_laws.specs.Calls.{CallsIn, IsAmong}
use Rattle.linked_laws.specs.Ranges.{IsInRange}

-- there are at most eight threads
abbrev pub FewThreads : Type 0
FewThreads = (classes : List ClassRecord) (p : Prog) → IsProgramOf classes p → length p.threads ≤ 8

-- no two methods have one name, and the instructions of each stand by their places
abbrev pub AreOrdered : Type 0
AreOrdered = (classes : List ClassRecord) (p : Prog) → IsProgramOf classes p → IsOrdered p

-- the entry of each thread is a method of the program
abbrev pub EntriesAreMethods : Type 0
EntriesAreMethods = (classes : List ClassRecord) (p : Prog) (id : MethodId) → IsProgramOf classes p → Contains p.threads id → IsAmong p id

-- each method that is called is one of the program
abbrev pub CalledAreMethods : Type 0
CalledAreMethods = (classes : List ClassRecord) (p : Prog) (caller called : MethodId) → IsProgramOf classes p → CallsIn p caller called → IsAmong p called

-- no method calls itself by any way
abbrev pub NoneCallsItself : Type 0
NoneCallsItself = (classes : List ClassRecord) (p : Prog) (id : MethodId) → IsProgramOf classes p → Path (CallsIn p) id id → ⊥

-- the program has each variable, monitor, thread and method that an instruction names, and each constant is an int
abbrev pub OperandsAreInRange : Type 0
OperandsAreInRange = (classes : List ClassRecord) (p : Prog) (m : Method) → IsProgramOf classes p → Contains p.methods m → All (IsInRange p) m.operands

-- the names of the variables and of the monitors can be written
abbrev pub VariablesAreSpelt : Type 0
VariablesAreSpelt = (classes : List ClassRecord) (p : Prog) → IsProgramOf classes p → All IsSpeltVariable p.variables

abbrev pub MonitorsAreSpelt : Type 0
MonitorsAreSpelt = (classes : List ClassRecord) (p : Prog) → IsProgramOf classes p → All IsName p.monitors

-- no two variables have one name, and no two monitors
abbrev pub VariablesAreApart : Type 0
VariablesAreApart = (classes : List ClassRecord) (p : Prog) → IsProgramOf classes p → AreApart p.variables

abbrev pub MonitorsAreApart : Type 0
MonitorsAreApart = (classes : List ClassRecord) (p : Prog) → IsProgramOf classes p → AllPairs (λ a b. a ≢ b) p.monitors
