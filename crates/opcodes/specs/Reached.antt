-- The places of the code that are reached, and the list of their instructions.
use Rattle.std.specs.Prelude.{ℕ, List}
use Rattle.relations.specs.Path.{Walk}
use Rattle.opcodes.specs.declared.instruction.Instr.{Instr}
use Rattle.opcodes.specs.declared.listed.Listed.{Listed}
use Rattle.opcodes.specs.Instructions.{Decodes, Follows}
use Rattle.opcodes.specs.Listing.{IsByPc, StandsAt}

-- some list of successors leads there from the first place, along jumps and to the next instruction,
-- never along the exception table
abbrev pub Reached : List ℕ → ℕ → Type 0
Reached code pc = Walk (Follows code) 0 pc

-- the list has exactly the reached instructions, by place
pub record IsListingOf (code : List ℕ) (listing : List Listed) : Type 0 where
  pub by_pc : IsByPc listing
  pub reached : (pc : ℕ) (instr : Instr) → StandsAt listing pc instr → Reached code pc
  pub decodes : (pc : ℕ) (instr : Instr) → StandsAt listing pc instr → Decodes code pc instr
  pub whole : (pc : ℕ) (instr : Instr) → Reached code pc → Decodes code pc instr → StandsAt listing pc instr
