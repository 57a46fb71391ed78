use Rattle.propagation.proofs.Settled.{back_is_watched}
use Rattle.propagation.proofs.laws.back_is_watched.Goals as goal

pub returns : goal.returns
returns c = back_is_watched
