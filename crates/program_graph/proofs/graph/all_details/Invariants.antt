-- What is known of the first nodes.
use Rattle.std.proofs.Common.{take}
use Rattle.program_graph.specs.Graph.{AreDetails}
use Rattle.program_graph.proofs.graph.all_details.Given as goal

abbrev pub invariant-loop-spot : goal.invariant-loop-spot
invariant-loop-spot l = AreDetails l.program (take l.spot-index l.spots) l.details
