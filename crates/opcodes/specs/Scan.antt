-- The search for the least place with a fault.
use Rattle.std.specs.Prelude.{◌≡◌, ◌<◌, ◌≤◌, ◌+◌, ℕ, ℤ, List, Option, Some, None, ◌⊎◌}
use Rattle.opcodes.specs.declared.instruction.Instr.{Instr}
use Rattle.opcodes.specs.declared.fault.Fault.{Fault}
use Rattle.opcodes.specs.declared.fault.Fault.TheVariants.{Unreadable, Target}
use Rattle.opcodes.specs.Instructions.{length_of, Decodes, Successor}
use Rattle.opcodes.specs.Faults.{IsOutside, MissesTarget}
use Rattle.opcodes.specs.Reached.{Reached}
use Rattle.opcodes.specs.Survey.{IsMisread}

-- what is wrong at the place, the first kind that holds
abbrev pub IsFault : List ℕ → ℕ → Fault → Type 0
IsFault code pc (Unreadable why) = IsMisread code pc why
IsFault code pc Target = MissesTarget code pc

-- there is a target, and it is none of a code with this many bytes
abbrev pub IsTargetOutside : ℕ → Option ℤ → Type 0
IsTargetOutside size (Some to) = IsOutside size to
IsTargetOutside size None = ⊥

-- the instruction has a successor outside a code with this many bytes
pub record LeavesFrom (size pc : ℕ) (instr : Instr) : Type 0 where
  pub to : ℤ
  pub successor : Successor pc instr to
  pub outside : IsOutside size to

-- a reached instruction
pub record IsReachedInstr (code : List ℕ) (start : ℕ) (instr : Instr) : Type 0 where
  pub reached : Reached code start
  pub decodes : Decodes code start instr

-- where the reached instructions that begin before a place end: none passes the end, and some meets it
pub record IsEndBefore (code : List ℕ) (pc end : ℕ) : Type 0 where
  pub covers : (start : ℕ) (instr : Instr) → start < pc → IsReachedInstr code start instr → start + length_of instr ≤ end
  pub met : (end ≡ 0) ⊎ ((start : ℕ) × (instr : Instr) × (start < pc) × IsReachedInstr code start instr × (start + length_of instr ≡ end))
