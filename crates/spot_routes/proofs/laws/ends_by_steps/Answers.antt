-- By the lemma.
use Rattle.spot_routes.proofs.Bounded.{ends_by_steps}
use Rattle.spot_routes.proofs.laws.ends_by_steps.Goals as goal

pub returns : goal.returns
returns c = ends_by_steps
