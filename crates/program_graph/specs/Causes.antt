-- Why a program has no graph.
use Rattle.std.specs.Prelude.{ℕ, ⊤}
use Rattle.line_text.specs.declared.bounds.Bounds.{Bounds}
use Rattle.relations.specs.Least.{IsLeast}
use Rattle.program.specs.Program.{Prog}
use Rattle.pruned_graph.specs.Pruned.{NeverEnds}
use Rattle.reached_spots.specs.Exploring.{AreTooMany}
use Rattle.program_graph.specs.Graph.{IsGraph}
use Rattle.program_graph.specs.Limits.{IsFirstPassed}
use Rattle.program_graph.specs.declared.graph.Graph.{Graph}
use Rattle.program_graph.specs.declared.refusal.GraphRefusal.{GraphRefusal}
use Rattle.program_graph.specs.declared.refusal.GraphRefusal.TheVariants as refusal

-- some thread can't end, and this is the least one; the threads reach few spots
pub record IsFirstEndless (p : Prog) (bounds : Bounds) (thread : ℕ) : Type 0 where
  pub least : IsLeast (NeverEnds p bounds.jumps) thread
  pub not_many : AreTooMany p bounds.jumps → ⊥

-- the program has its nodes and edges, and these pass this limit first
pub record PassesFirst (p : Prog) (bounds : Bounds) (passed : GraphRefusal) : Type 0 where
  pub graph : Graph
  pub is_graph : IsGraph p bounds graph
  pub passes : IsFirstPassed graph.details graph.actions passed

-- what is the case where a program is refused; want of memory says nothing
abbrev pub IsCause : Prog → Bounds → GraphRefusal → Type 0
IsCause p bounds refusal.CodeNodes = AreTooMany p bounds.jumps
IsCause p bounds (refusal.NeverEnds thread) = IsFirstEndless p bounds thread
IsCause p bounds refusal.Memory = ⊤
IsCause p bounds passed = PassesFirst p bounds passed

-- the same, where no limit is spoken of
abbrev pub IsBareCause : Prog → Bounds → GraphRefusal → Type 0
IsBareCause p bounds refusal.CodeNodes = AreTooMany p bounds.jumps
IsBareCause p bounds (refusal.NeverEnds thread) = IsFirstEndless p bounds thread
IsBareCause p bounds refusal.Memory = ⊤
IsBareCause p bounds passed = ⊥
