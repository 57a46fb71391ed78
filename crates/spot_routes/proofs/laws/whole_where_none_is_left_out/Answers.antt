-- By the lemma.
use Rattle.spot_routes.proofs.Bounded.{whole_where_none_is_left_out}
use Rattle.spot_routes.proofs.laws.whole_where_none_is_left_out.Goals as goal

pub returns : goal.returns
returns c = whole_where_none_is_left_out
