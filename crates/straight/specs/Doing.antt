-- What an instruction of straight code does, by what it names.
use Rattle.std.specs.Prelude.{ℕ, Bool, true, false}
use Rattle.opcodes.specs.declared.instruction.Instr.{Instr}
use Rattle.opcodes.specs.declared.instruction.Instr.TheVariants.{Putstatic}
use Rattle.program.specs.declared.method.Operand.{Operand}
use Rattle.program.specs.declared.method.Operand.TheVariants as operand
use Rattle.straight.specs.declared.doing.Doing.{Doing}
use Rattle.straight.specs.declared.doing.Doing.TheVariants as doing

abbrev pub is_putstatic : Instr → Bool
is_putstatic (Putstatic index) = true
is_putstatic _ = false

-- the access to a variable: a write by putstatic, else a read
abbrev pub access_of : Bool → ℕ → Doing
access_of true v = doing.Write v
access_of false v = doing.Read v

abbrev pub doing_of : Instr → Operand → Doing
doing_of instr (operand.Constant n) = doing.Push n
doing_of instr (operand.Variable v) = access_of (is_putstatic instr) v
doing_of instr operand.Out = doing.PushOut
doing_of instr operand.Print = doing.Print
doing_of instr _ = doing.Nothing
