-- The limits of a graph (docs/GRAPH.md, "Limits").
use Rattle.std.specs.Prelude.{◌≤◌, ◌<◌, ℕ, Bool, true, false, List, Option, Some, None, count_by, length}
use Rattle.opcodes.specs.declared.instruction.Instr.{Instr}
use Rattle.opcodes.specs.declared.instruction.Instr.TheVariants.{Imul}
use Rattle.program.specs.declared.kind.Kind.{Kind}
use Rattle.program.specs.declared.kind.Kind.TheVariants.{Read, VolatileRead}
use Rattle.node_details.specs.declared.details.NodeDetails.{NodeDetails}
use Rattle.node_details.specs.declared.details.NodeInstruction.{NodeInstruction}
use Rattle.program_graph.specs.declared.actions.ActionNode.{ActionNode}
use Rattle.program_graph.specs.declared.refusal.GraphRefusal.{GraphRefusal}
use Rattle.program_graph.specs.declared.refusal.GraphRefusal.TheVariants.{ActionNodes, ReadNodes, Multiplications}

-- ---- Reads and multiplications

abbrev pub reads : Kind → Bool
reads Read = true
reads VolatileRead = true
reads _ = false

abbrev pub is_read : ActionNode → Bool
is_read a = reads a.action.act.kind

abbrev pub reads_among : List ActionNode → ℕ
reads_among actions = count_by is_read actions

abbrev pub multiplies : Instr → Bool
multiplies Imul = true
multiplies _ = false

abbrev pub multiplies_at : Option NodeInstruction → Bool
multiplies_at None = false
multiplies_at (Some at) = multiplies at.instr

abbrev pub is_multiplication : NodeDetails → Bool
is_multiplication node = multiplies_at node.instruction

abbrev pub multiplications_among : List NodeDetails → ℕ
multiplications_among nodes = count_by is_multiplication nodes

-- ---- Limits

-- nodes with these actions are within the limits
pub record IsWithin (nodes : List NodeDetails) (actions : List ActionNode) : Type 0 where
  pub few_actions : length actions ≤ 64
  pub few_reads : reads_among actions ≤ 24
  pub few_multiplications : multiplications_among nodes ≤ 16

pub record PassesReads (actions : List ActionNode) : Type 0 where
  pub few_actions : length actions ≤ 64
  pub many : 24 < reads_among actions

pub record PassesMultiplications (nodes : List NodeDetails) (actions : List ActionNode) : Type 0 where
  pub few_actions : length actions ≤ 64
  pub few_reads : reads_among actions ≤ 24
  pub many : 16 < multiplications_among nodes

-- the limit that nodes with these actions pass first
abbrev pub IsFirstPassed : List NodeDetails → List ActionNode → GraphRefusal → Type 0
IsFirstPassed nodes actions ActionNodes = 64 < length actions
IsFirstPassed nodes actions ReadNodes = PassesReads actions
IsFirstPassed nodes actions Multiplications = PassesMultiplications nodes actions
IsFirstPassed nodes actions _ = ⊥
