-- By the lemma.
use Rattle.spot_routes.proofs.Apart.{one_answered_route}
use Rattle.spot_routes.proofs.laws.are_apart.Goals as goal

pub returns : goal.returns
returns c = one_answered_route
