use Rattle.straight.proofs.Justified.{straight_is_justified}
use Rattle.straight.proofs.laws.straight_is_justified.Goals as goal

pub returns : goal.returns
returns c = straight_is_justified
