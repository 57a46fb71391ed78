-- The circuits of instructions: the gates of inner bits and of results, and the conditions of jumps (docs/RULES.md, "Circuits").
use Rattle.std.specs.Prelude.{ℕ, ℤ, Bool, true, false, cond, min, nat_lt, Option, Some, None, is_some}
use Rattle.opcodes.specs.declared.instruction.Instr.{Instr}
use Rattle.opcodes.specs.declared.instruction.Instr.TheVariants.{Iadd, Isub, Imul, Ineg, Ishl, Ishr, Iushr, Iand, Ior, Ixor, Iinc, I2b, I2c, I2s, Ifeq, Ifne, Iflt, Ifge, Ifgt, Ifle, IfIcmpeq, IfIcmpne, IfIcmplt, IfIcmpge, IfIcmpgt, IfIcmple, Getstatic}
use Rattle.program.specs.declared.method.Operand.{Operand}
use Rattle.program.specs.declared.method.Operand.TheVariants as operand
use Rattle.node_details.specs.declared.details.NodeInstruction.{NodeInstruction}
use Rattle.circuits.specs.declared.gate.Gate.{Gate}
use Rattle.circuits.specs.declared.gate.Gate.TheVariants.{Constant, Same, Two}
use Rattle.circuits.specs.declared.gate.Input.{Input}
use Rattle.circuits.specs.declared.gate.Pair.TheVariants.{And, Or, Xor}
use Rattle.circuits.specs.declared.gate.Wire.TheVariants.{InnerBit}
use Rattle.circuits.specs.Gates.{inner, lower, negated, not_upper, upper}
use Rattle.circuits.specs.Products.{mul_inner, mul_result}
use Rattle.circuits.specs.Shifts.{shift_result, shl_inner, shr_inner, ushr_inner}
use Rattle.circuits.specs.Sums.{add_inner, add_result, increment_inner, increment_result, is_set, neg_inner, neg_result, sub_inner, sub_result}
use Rattle.circuits.specs.Tests.{above_inner, above_zero_inner, below_inner, equal_inner, zero_inner}

-- ---- Inner bits

-- a number above all inner bits
abbrev pub inner_bits : Instr → ℕ
inner_bits Iadd = 32
inner_bits Isub = 32
inner_bits Ineg = 32
inner_bits (Iinc _ _) = 32
inner_bits Imul = 3072
inner_bits Ishl = 160
inner_bits Ishr = 160
inner_bits Iushr = 160
inner_bits (Ifeq _) = 33
inner_bits (Ifne _) = 33
inner_bits (Ifgt _) = 34
inner_bits (Ifle _) = 34
inner_bits (IfIcmpeq _) = 33
inner_bits (IfIcmpne _) = 33
inner_bits (IfIcmplt _) = 33
inner_bits (IfIcmpge _) = 33
inner_bits (IfIcmpgt _) = 33
inner_bits (IfIcmple _) = 33
inner_bits _ = 0

-- the gate of an inner bit
abbrev pub inner_by : Instr → ℕ → Option Gate
inner_by Iadd j = Some (add_inner j)
inner_by Isub j = Some (sub_inner j)
inner_by Ineg j = Some (neg_inner j)
inner_by (Iinc local delta) j = Some (increment_inner delta local j)
inner_by Imul j = mul_inner j
inner_by Ishl j = Some (shl_inner j)
inner_by Ishr j = Some (shr_inner j)
inner_by Iushr j = Some (ushr_inner j)
inner_by (Ifeq _) j = Some (zero_inner j)
inner_by (Ifne _) j = Some (zero_inner j)
inner_by (Ifgt _) j = Some (above_zero_inner j)
inner_by (Ifle _) j = Some (above_zero_inner j)
inner_by (IfIcmpeq _) j = Some (equal_inner j)
inner_by (IfIcmpne _) j = Some (equal_inner j)
inner_by (IfIcmplt _) j = Some (below_inner j)
inner_by (IfIcmpge _) j = Some (below_inner j)
inner_by (IfIcmpgt _) j = Some (above_inner j)
inner_by (IfIcmple _) j = Some (above_inner j)
inner_by _ j = None

abbrev pub inner_gate : Instr → ℕ → Option Gate
inner_gate instr j = cond (nat_lt j (inner_bits instr)) (inner_by instr j) None

-- ---- Results

-- the low bits, and the highest of them repeated
abbrev pub narrowed : ℕ → ℕ → Gate
narrowed highest bit = Same (upper (min bit highest))

-- the low 16 bits, and 0
abbrev pub char_result : ℕ → Gate
char_result bit = cond (nat_lt bit 16) (Same (upper bit)) (Constant false)

-- the gate of a bit of what an instruction computes
abbrev pub computed_by : Instr → ℕ → Option Gate
computed_by Iadd bit = Some (add_result bit)
computed_by Isub bit = Some (sub_result bit)
computed_by Ineg bit = Some (neg_result bit)
computed_by (Iinc local delta) bit = Some (increment_result delta local bit)
computed_by Imul bit = Some (mul_result bit)
computed_by Ishl bit = Some (shift_result bit)
computed_by Ishr bit = Some (shift_result bit)
computed_by Iushr bit = Some (shift_result bit)
computed_by Iand bit = Some (Two And (lower bit) (upper bit))
computed_by Ior bit = Some (Two Or (lower bit) (upper bit))
computed_by Ixor bit = Some (Two Xor (lower bit) (upper bit))
computed_by I2b bit = Some (narrowed 7 bit)
computed_by I2s bit = Some (narrowed 15 bit)
computed_by I2c bit = Some (char_result bit)
computed_by _ bit = None

-- that of an int which the instruction says itself is constant
abbrev pub result_by : Option ℤ → NodeInstruction → ℕ → Option Gate
result_by (Some n) at bit = Some (Constant (is_set n bit))
result_by None at bit = computed_by at.instr bit

abbrev pub result_gate : NodeInstruction → ℕ → Option Gate
result_gate at bit = cond (nat_lt bit 32) (result_by at.constant at bit) None

-- whether the bits of the result have gates
abbrev pub has_gates : NodeInstruction → Bool
has_gates at = is_some (result_gate at 0)

-- whether an instruction with this name reads a variable
abbrev pub reads_by : Operand → Instr → Bool
reads_by (operand.Variable _) (Getstatic _) = true
reads_by _ _ = false

abbrev pub reads_variable : NodeInstruction → Bool
reads_variable at = reads_by at.names at.instr

-- whether there is a result: what is read has no gates
abbrev pub has_result : NodeInstruction → Bool
has_result at = cond (has_gates at) true (reads_variable at)

-- ---- Conditions

-- when a jump is taken
abbrev pub condition : Instr → Option Input
condition (Ifeq _) = Some (inner 32)
condition (Ifne _) = Some (negated (InnerBit 32))
condition (Iflt _) = Some (upper 31)
condition (Ifge _) = Some (not_upper 31)
condition (Ifgt _) = Some (inner 33)
condition (Ifle _) = Some (negated (InnerBit 33))
condition (IfIcmpeq _) = Some (inner 32)
condition (IfIcmpne _) = Some (negated (InnerBit 32))
condition (IfIcmplt _) = Some (inner 32)
condition (IfIcmpge _) = Some (negated (InnerBit 32))
condition (IfIcmpgt _) = Some (inner 32)
condition (IfIcmple _) = Some (negated (InnerBit 32))
condition _ = None
