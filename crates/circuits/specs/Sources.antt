-- From where the content of a slot comes along an edge (docs/RULES.md, "Sources").
use Rattle.std.specs.Prelude.{◌+◌, ◌-◌, ◌&&◌, ℕ, Bool, true, false, ℤ, cond, nat_eq, nat_le, nat_lt, Option, Some, None}
use Rattle.opcodes.specs.declared.instruction.Instr.{Instr}
use Rattle.opcodes.specs.declared.instruction.Instr.TheVariants.{Iload, Iload0, Iload1, Iload2, Iload3, Istore, Istore0, Istore1, Istore2, Istore3, Dup, Swap, Iadd, Isub, Imul, Ineg, Ishl, Ishr, Iushr, Iand, Ior, Ixor, Iinc, I2b, I2c, I2s, Ireturn, Invokestatic}
use Rattle.program.specs.declared.method.Operand.{Operand}
use Rattle.program.specs.declared.method.Operand.TheVariants as operand
use Rattle.node_details.specs.declared.details.NodeInstruction.{NodeInstruction}
use Rattle.circuits.specs.declared.source.Source.{Source}
use Rattle.circuits.specs.declared.source.Source.TheVariants.{Result, Moved}
use Rattle.circuits.specs.Circuits.{reads_variable}

-- ---- Results

-- the slot of an int that the instruction says itself: it is pushed, where the instruction asks for a thread in the place of that
abbrev pub said_slot : Operand → ℕ → ℕ
said_slot (operand.Alive _) top = top - 1
said_slot _ top = top

-- the slot of what an instruction computes: the place of its lowest operand
abbrev pub computed_slot : Instr → ℕ → ℕ → Option ℕ
computed_slot Iadd base top = Some (top - 2)
computed_slot Isub base top = Some (top - 2)
computed_slot Imul base top = Some (top - 2)
computed_slot Ishl base top = Some (top - 2)
computed_slot Ishr base top = Some (top - 2)
computed_slot Iushr base top = Some (top - 2)
computed_slot Iand base top = Some (top - 2)
computed_slot Ior base top = Some (top - 2)
computed_slot Ixor base top = Some (top - 2)
computed_slot Ineg base top = Some (top - 1)
computed_slot I2b base top = Some (top - 1)
computed_slot I2c base top = Some (top - 1)
computed_slot I2s base top = Some (top - 1)
computed_slot (Iinc slot _) base top = Some (base + slot)
computed_slot _ base top = None

abbrev pub result_slot_by : Option ℤ → NodeInstruction → Option ℕ
result_slot_by (Some _) at = Some (said_slot at.names at.top)
result_slot_by None at = cond (reads_variable at) (Some at.top) (computed_slot at.instr at.base at.top)

-- the slot into which an instruction puts its result, if it has one
abbrev pub result_slot : NodeInstruction → Option ℕ
result_slot at = result_slot_by at.constant at

-- ---- Moves

-- the local that is loaded
abbrev pub loaded : Instr → Option ℕ
loaded (Iload n) = Some n
loaded Iload0 = Some 0
loaded Iload1 = Some 1
loaded Iload2 = Some 2
loaded Iload3 = Some 3
loaded _ = None

-- the local into which is stored
abbrev pub stored : Instr → Option ℕ
stored (Istore n) = Some n
stored Istore0 = Some 0
stored Istore1 = Some 1
stored Istore2 = Some 2
stored Istore3 = Some 3
stored _ = None

-- the two topmost values are exchanged
abbrev pub exchanged : ℕ → ℕ → ℕ
exchanged top slot = cond (nat_eq slot (top - 1)) (top - 2) (cond (nat_eq slot (top - 2)) (top - 1) slot)

-- the arguments on the stack become the first locals of the frame of the method that is called
abbrev pub passed : NodeInstruction → NodeInstruction → ℕ → ℕ
passed from to slot =
    cond (nat_le to.base slot && nat_lt (slot - to.base) to.parameters) (from.top - to.parameters + (slot - to.base)) slot

-- an int that one slot has comes from another, all others keep theirs
abbrev pub only : ℕ → ℕ → ℕ → ℕ
only to from slot = cond (nat_eq slot to) from slot

-- what neither loads nor stores
abbrev pub moved_otherwise : Instr → NodeInstruction → NodeInstruction → ℕ → ℕ
moved_otherwise Dup from to slot = only from.top (from.top - 1) slot
moved_otherwise Swap from to slot = exchanged from.top slot
moved_otherwise (Invokestatic _) from to slot = passed from to slot
moved_otherwise Ireturn from to slot = only (to.top - 1) (from.top - 1) slot
moved_otherwise _ from to slot = slot

abbrev pub moved_by_store : Option ℕ → NodeInstruction → NodeInstruction → ℕ → ℕ
moved_by_store (Some n) from to slot = only (from.base + n) (from.top - 1) slot
moved_by_store None from to slot = moved_otherwise from.instr from to slot

abbrev pub moved_by_load : Option ℕ → NodeInstruction → NodeInstruction → ℕ → ℕ
moved_by_load (Some n) from to slot = only from.top (from.base + n) slot
moved_by_load None from to slot = moved_by_store (stored from.instr) from to slot

-- the slot whose content moves to a slot, where an instruction leads to another
abbrev pub moved_from : NodeInstruction → NodeInstruction → ℕ → ℕ
moved_from from to slot = moved_by_load (loaded from.instr) from to slot

-- ---- Sources

abbrev pub is_slot : Option ℕ → ℕ → Bool
is_slot None slot = false
is_slot (Some s) slot = nat_eq s slot

-- the result, or what moves there
abbrev pub source_between : NodeInstruction → NodeInstruction → ℕ → Source
source_between from to slot = cond (is_slot (result_slot from) slot) Result (Moved (moved_from from to slot))

-- at the beginning and the end of a thread nothing moves
abbrev pub source : Option NodeInstruction → Option NodeInstruction → ℕ → Source
source (Some from) (Some to) slot = source_between from to slot
source _ _ slot = Moved slot
