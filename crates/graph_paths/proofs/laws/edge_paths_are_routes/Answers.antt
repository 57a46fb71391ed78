-- By the lemma.
use Rattle.graph_paths.proofs.Edges.{edge_paths}
use Rattle.graph_paths.proofs.laws.edge_paths_are_routes.Goals as goal

pub returns : goal.returns
returns c = edge_paths
