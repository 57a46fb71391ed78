-- The instructions of nodes, by number: their circuits and slots.
use Rattle.std.specs.Prelude.{◌+◌, ℕ, Bool, false, max, is_some, nat_eq, List, [], ◌∷◌, Option, None, Some, slice_get}
use Rattle.std.specs.List.{list_any}
use Rattle.node_details.specs.declared.details.NodeDetails.{NodeDetails}
use Rattle.node_details.specs.declared.details.NodeInstruction.{NodeInstruction}
use Rattle.program_graph.specs.declared.graph.Graph.{Graph}
use Rattle.circuits.specs.declared.gate.Gate.{Gate}
use Rattle.circuits.specs.declared.gate.Input.{Input}
use Rattle.circuits.specs.Circuits as circuits
use Rattle.circuits.specs.Gates.{rows}
use Rattle.rule_base.specs.Nodes.{from_of}

abbrev instruction_in : Option NodeDetails → Option NodeInstruction
instruction_in None = None
instruction_in (Some details) = details.instruction

-- the instruction of the node with this number, if it has one
abbrev pub instruction_at : Graph → ℕ → Option NodeInstruction
instruction_at g n = instruction_in (slice_get g.details n)

-- ---- Jumps

abbrev condition_in : Option NodeInstruction → Option Input
condition_in None = None
condition_in (Some at) = circuits.condition at.instr

-- when the jump of the node is taken, if it is a conditional one
abbrev pub condition_of : Graph → ℕ → Option Input
condition_of g n = condition_in (instruction_at g n)

-- whether the edge leads from a conditional jump
abbrev pub is_jump : Graph → ℕ → Bool
is_jump g e = is_some (condition_of g (from_of g e))

-- ---- Inner bits

abbrev inner_bits_in : Option NodeInstruction → ℕ
inner_bits_in None = 0
inner_bits_in (Some at) = circuits.inner_bits at.instr

-- a number above all inner bits of the node
abbrev pub inner_bits_of : Graph → ℕ → ℕ
inner_bits_of g n = inner_bits_in (instruction_at g n)

abbrev inner_gate_in : Option NodeInstruction → ℕ → Option Gate
inner_gate_in None j = None
inner_gate_in (Some at) j = circuits.inner_gate at.instr j

-- the gate of an inner bit of the node, if it has one
abbrev pub inner_gate_of : Graph → ℕ → ℕ → Option Gate
inner_gate_of g n j = inner_gate_in (instruction_at g n) j

-- ---- Results

abbrev result_gate_in : Option NodeInstruction → ℕ → Option Gate
result_gate_in None bit = None
result_gate_in (Some at) bit = circuits.result_gate at bit

-- the gate of a bit of the node's result, if it has one
abbrev pub result_gate_of : Graph → ℕ → ℕ → Option Gate
result_gate_of g n bit = result_gate_in (instruction_at g n) bit

abbrev is_gated_in : Option NodeInstruction → Bool
is_gated_in None = false
is_gated_in (Some at) = circuits.has_gates at

-- whether the bits of the node's result have gates
abbrev pub is_gated : Graph → ℕ → Bool
is_gated g n = is_gated_in (instruction_at g n)

abbrev has_result_in : Option NodeInstruction → Bool
has_result_in None = false
has_result_in (Some at) = circuits.has_result at

-- whether the node has a result
abbrev pub has_result : Graph → ℕ → Bool
has_result g n = has_result_in (instruction_at g n)

-- how many rows a gate has, if it is one
abbrev pub rows_of : Option Gate → ℕ
rows_of None = 0
rows_of (Some gate) = rows gate

-- ---- Slots

abbrev int_slots_in : Option NodeInstruction → List ℕ
int_slots_in None = []
int_slots_in (Some at) = at.int_slots

-- the slots that hold ints at the node
abbrev pub int_slots_of : Graph → ℕ → List ℕ
int_slots_of g n = int_slots_in (instruction_at g n)

-- the first number above these
abbrev pub above_all : List ℕ → ℕ
above_all [] = 0
above_all (s ∷ slots) = max (s + 1) (above_all slots)

-- whether the slot holds an int at the node
abbrev pub is_int_slot : Graph → ℕ → ℕ → Bool
is_int_slot g n slot = list_any (λ s. nat_eq s slot) (int_slots_of g n)
