-- The program: what its runs need of the classes.
use Rattle.std.specs.Prelude.{◌≡◌, ◌≢◌, ◌<◌, ◌^◌, ◌++◌, ℕ, List, [], ◌∷◌, All, AllPairs, Contains, Some, slice_get, length}
use Rattle.opcodes.specs.declared.instruction.Instr.{Instr}
use Rattle.program.specs.Names.{IsName}
use Rattle.program.specs.declared.method.Method.{Method}
use Rattle.program.specs.declared.method.MethodId.{MethodId}
use Rattle.program.specs.declared.method.Operand.{Operand}
use Rattle.program.specs.declared.program.Variable.{Variable}

-- the variables, the monitors by class name, the entry method of each thread, and the reached methods
pub record Prog : Type 0 where
  pub variables : List Variable
  pub monitors : List (List ℕ)
  pub threads : List MethodId
  pub methods : List Method

-- a reached method of the program
pub record IsMethod (p : Prog) (id : MethodId) (m : Method) : Type 0 where
  pub reached : Contains p.methods m
  pub named : m.id ≡ id

-- the reached instruction at this place of a method, and what it names
pub record IsInstruction (m : Method) (pc : ℕ) (instr : Instr) (operand : Operand) : Type 0 where
  pub place : ℕ
  pub listed : slice_get m.listing place ≡ Some (record { pc = pc; instr = instr })
  pub names : slice_get m.operands place ≡ Some operand

-- the names of a variable can be written
pub record IsSpeltVariable (v : Variable) : Type 0 where
  pub class : IsName v.class
  pub name : IsName v.name

-- each instruction of the method has its operand
abbrev pub HasOperands : Method → Type 0
HasOperands m = length m.operands ≡ length m.listing

-- the program has no method of that name yet
abbrev pub IsNewMethod : Prog → Method → Type 0
IsNewMethod p m = (other : Method) → Contains p.methods other → other.id ≢ m.id

-- what the type of a program keeps: the names of variables can be written, each instruction has its operand, no two methods
-- have one name, and there are few threads
pub record IsProgram (p : Prog) : Type 0 where
  pub spelt : All IsSpeltVariable p.variables
  pub operands : All HasOperands p.methods
  pub distinct : AllPairs (λ m n. m.id ≢ n.id) p.methods
  pub threads : length p.threads < 2 ^ 32

-- ---- How programs are built

abbrev pub no_program : Prog
no_program = record { variables = []; monitors = []; threads = []; methods = [] }

abbrev pub with_variable : Prog → Variable → Prog
with_variable p v = record p { variables = p.variables ++ v ∷ [] }

abbrev pub with_monitor : Prog → List ℕ → Prog
with_monitor p class = record p { monitors = p.monitors ++ class ∷ [] }

abbrev pub with_thread : Prog → MethodId → Prog
with_thread p entry = record p { threads = p.threads ++ entry ∷ [] }

abbrev pub with_method : Prog → Method → Prog
with_method p m = record p { methods = p.methods ++ m ∷ [] }
