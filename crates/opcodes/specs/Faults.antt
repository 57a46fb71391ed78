-- What is wrong at a reached place of the code, and which refusal says so.
use Rattle.std.specs.Prelude.{◌≡◌, ◌≢◌, ◌<◌, ◌+◌, ◌<ℤ◌, ◌≤ℤ◌, ℕ, ℤ, pos, List, Some, length, slice_get, ◌⊎◌, ⊤}
use Rattle.relations.specs.Least.{IsLeast}
use Rattle.opcodes.specs.declared.instruction.Instr.{Instr}
use Rattle.opcodes.specs.declared.refusal.OpcodeRefusal.{OpcodeRefusal}
use Rattle.opcodes.specs.declared.refusal.OpcodeRefusal.TheVariants.{Opcode, CutInstruction, JumpTarget, Memory}
use Rattle.opcodes.specs.Instructions.{number_of, length_of, Decodes, Successor}
use Rattle.opcodes.specs.Reached.{Reached, IsListingOf}

-- the number that stands there is that of no instruction
pub record IsUnknown (code : List ℕ) (pc number : ℕ) : Type 0 where
  pub there : slice_get code pc ≡ Some number
  pub unknown : (instr : Instr) → number_of instr ≢ number

-- the operands of the instruction there pass the end of the code
pub record IsCut (code : List ℕ) (pc : ℕ) : Type 0 where
  pub instr : Instr
  pub there : slice_get code pc ≡ Some (number_of instr)
  pub beyond : length code < pc + length_of instr

-- the place is none of a code with this many bytes
abbrev pub IsOutside : ℕ → ℤ → Type 0
IsOutside size to = (to <ℤ pos 0) ⊎ (pos size ≤ℤ to)

-- a successor of the instruction there lies outside the code
pub record LeavesCode (code : List ℕ) (pc : ℕ) : Type 0 where
  pub instr : Instr
  pub decodes : Decodes code pc instr
  pub to : ℤ
  pub successor : Successor pc instr to
  pub outside : IsOutside (length code) to

-- the place lies inside another reached instruction that begins earlier
pub record LiesInside (code : List ℕ) (pc : ℕ) : Type 0 where
  pub start : ℕ
  pub instr : Instr
  pub reached : Reached code start
  pub decodes : Decodes code start instr
  pub earlier : start < pc
  pub inside : pc < start + length_of instr

-- what can be wrong at a place
pub data HasFault (code : List ℕ) (pc : ℕ) : Type 0 where
  unknown : (number : ℕ) → Reached code pc → IsUnknown code pc number → HasFault code pc
  cut : Reached code pc → IsCut code pc → HasFault code pc
  leaves : Reached code pc → LeavesCode code pc → HasFault code pc
  inside : Reached code pc → LiesInside code pc → HasFault code pc

-- the instruction there can be read, but it leaves the code or lies inside another
pub record MissesTarget (code : List ℕ) (pc : ℕ) : Type 0 where
  pub instr : Instr
  pub decodes : Decodes code pc instr
  pub misses : LeavesCode code pc ⊎ LiesInside code pc

-- exactly this refusal: the least place with a fault, there the first of the three kinds that holds, and
-- the list of all reached instructions
abbrev pub RefusedFor : List ℕ → OpcodeRefusal → Type 0
RefusedFor code (Opcode pc number listing) = IsLeast (HasFault code) pc × IsUnknown code pc number × IsListingOf code listing
RefusedFor code (CutInstruction pc listing) = IsLeast (HasFault code) pc × IsCut code pc × IsListingOf code listing
RefusedFor code (JumpTarget pc listing) = IsLeast (HasFault code) pc × MissesTarget code pc × IsListingOf code listing
RefusedFor code Memory = ⊤
