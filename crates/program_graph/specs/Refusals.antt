-- Refusals of the nodes and edges, as refusals of the graph.
use Rattle.pruned_graph.specs.declared.refusal.PruneRefusal.{PruneRefusal}
use Rattle.pruned_graph.specs.declared.refusal.PruneRefusal.TheVariants as pruned
use Rattle.program_graph.specs.declared.refusal.GraphRefusal.{GraphRefusal}
use Rattle.program_graph.specs.declared.refusal.GraphRefusal.TheVariants.{CodeNodes, NeverEnds, Memory}

abbrev pub refused_as : PruneRefusal → GraphRefusal
refused_as pruned.CodeNodes = CodeNodes
refused_as (pruned.NeverEnds thread) = NeverEnds thread
refused_as pruned.Memory = Memory
