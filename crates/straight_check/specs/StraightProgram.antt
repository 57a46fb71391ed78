-- Straight programs that pass no limit of the graph (docs/PROFILE.md, "Straight programs").
use Rattle.std.specs.Prelude.{◌≡◌, ◌≤◌, ◌+◌, ℕ, suc, Bool, true, false, List, [], ◌∷◌, length, filter, if◌then◌else◌}
use Rattle.opcodes.specs.declared.instruction.Instr.{Instr}
use Rattle.opcodes.specs.declared.instruction.Instr.TheVariants.{Getstatic}
use Rattle.opcodes.specs.declared.listed.Listed.{Listed}
use Rattle.program.specs.Program.{Prog}
use Rattle.program.specs.Straight.{IsStraight}
use Rattle.program.specs.declared.method.Method.{Method}
use Rattle.program.specs.declared.method.Operand.{Operand}
use Rattle.program.specs.declared.method.Operand.TheVariants as operand

-- an instruction that makes an action: an access to a variable, or a print
abbrev pub acts : Operand → Bool
acts (operand.Variable v) = true
acts operand.Print = true
acts _ = false

-- an instruction that reads a variable
abbrev pub reads : Instr → Operand → Bool
reads (Getstatic index) (operand.Variable v) = true
reads _ _ = false

-- how many instructions of a listing read a variable
abbrev pub reads_of : List Listed → List Operand → ℕ
reads_of [] names = 0
reads_of (item ∷ items) [] = 0
reads_of (item ∷ items) (o ∷ names) = if (reads item.instr o) then suc (reads_of items names) else (reads_of items names)

-- the limits of the graph: its nodes, one for each instruction, a first and a last one; its actions, a first and a last one
-- besides those that instructions make; its reads
pub record IsSmall (main : Method) : Type 0 where
  pub nodes : length main.listing + 2 ≤ 1024
  pub actions : length (filter acts main.operands) + 2 ≤ 64
  pub few_reads : reads_of main.listing main.operands ≤ 24

-- a straight program that passes no limit
pub record IsStraightProgram (p : Prog) : Type 0 where
  pub straight : IsStraight p
  pub main : Method
  pub method : p.methods ≡ main ∷ []
  pub small : IsSmall main
