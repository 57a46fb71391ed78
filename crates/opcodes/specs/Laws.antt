-- What follows from the definitions, and is stated by the functions of the module `laws`.
use Rattle.std.specs.Prelude.{◌≡◌, ℕ, List}
use Rattle.opcodes.specs.declared.instruction.Instr.{Instr}
use Rattle.opcodes.specs.declared.listed.Listed.{Listed}
use Rattle.opcodes.specs.Instructions.{Decodes}
use Rattle.opcodes.specs.Reached.{IsListingOf}

-- one instruction at most begins at a place of a code
abbrev pub OneInstruction : Type 0
OneInstruction = (code : List ℕ) (pc : ℕ) (first second : Instr) → Decodes code pc first → Decodes code pc second → first ≡ second

-- a code has one listing at most
abbrev pub OneListing : Type 0
OneListing = (code : List ℕ) (first second : List Listed) → IsListingOf code first → IsListingOf code second → first ≡ second
