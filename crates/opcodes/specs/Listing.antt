-- Lists of instructions by their places in the code.
use Rattle.std.specs.Prelude.{◌<◌, ℕ, List, AllPairs, Contains}
use Rattle.opcodes.specs.declared.instruction.Instr.{Instr}
use Rattle.opcodes.specs.declared.listed.Listed.{Listed}

-- the places increase strictly
abbrev pub IsByPc : List Listed → Type 0
IsByPc = AllPairs (λ a b. a.pc < b.pc)

-- the list has this instruction at this place of the code
abbrev pub StandsAt : List Listed → ℕ → Instr → Type 0
StandsAt items pc instr = Contains items (record { pc = pc; instr = instr })
