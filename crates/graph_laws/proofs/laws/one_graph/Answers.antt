-- The law.
use Rattle.graph_laws.proofs.Unique.{one_graph}
use Rattle.graph_laws.proofs.laws.one_graph.Goals as goal

pub returns : goal.returns
returns c p bounds g h ordered is other = one_graph p bounds g h ordered is other
