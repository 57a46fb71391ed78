-- By the lemma.
use Rattle.graph_paths.proofs.Edges.{one_to_one}
use Rattle.graph_paths.proofs.laws.one_route_one_path.Goals as goal

pub returns : goal.returns
returns c = one_to_one
