-- Calls between the methods of a program.
use Rattle.std.specs.Prelude.{Contains}
use Rattle.program.specs.Program.{Prog, IsMethod}
use Rattle.program.specs.declared.method.Method.{Method}
use Rattle.program.specs.declared.method.MethodId.{MethodId}
use Rattle.program.specs.declared.method.Operand.TheVariants as operand

-- an instruction of the one method calls the other
pub record CallsIn (p : Prog) (caller called : MethodId) : Type 0 where
  pub method : Method
  pub is_method : IsMethod p caller method
  pub call : Contains method.operands (operand.Method called)

-- some method of the program has this name
abbrev pub IsAmong : Prog → MethodId → Type 0
IsAmong p id = (method : Method) × IsMethod p id method
