-- Steps go up.
use Rattle.graph_shape.proofs.Up.{steps_up}
use Rattle.graph_shape.proofs.laws.steps_go_up.Goals as goal

pub returns : goal.returns
returns c = steps_up
