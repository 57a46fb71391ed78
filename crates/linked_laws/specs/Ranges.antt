-- The numbers in what instructions name.
use Rattle.std.specs.Prelude.{◌<◌, length}
use Rattle.program.specs.Ints.{IsInt}
use Rattle.program.specs.Program.{Prog}
use Rattle.program.specs.declared.method.Operand.{Operand}
use Rattle.program.specs.declared.method.Operand.TheVariants as operand
use Rattle.linked_laws.specs.Calls.{IsAmong}

-- the program has the variable, the monitor, the thread or the method that is named, and a constant is an int
abbrev pub IsInRange : Prog → Operand → Type 0
IsInRange p (operand.Constant n) = IsInt n
IsInRange p (operand.Variable v) = v < length p.variables
IsInRange p (operand.Monitor m) = m < length p.monitors
IsInRange p (operand.Make k) = k < length p.threads
IsInRange p (operand.Target k) = k < length p.threads
IsInRange p (operand.Wrap k) = k < length p.threads
IsInRange p (operand.Start k) = k < length p.threads
IsInRange p (operand.Join k) = k < length p.threads
IsInRange p (operand.Alive k) = k < length p.threads
IsInRange p (operand.Method id) = IsAmong p id
IsInRange p operand.Out = Unit {0}
IsInRange p operand.Print = Unit {0}
IsInRange p operand.Nothing = Unit {0}
