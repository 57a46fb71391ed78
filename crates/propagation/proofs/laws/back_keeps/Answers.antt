use Rattle.propagation.proofs.Settled.{back_keeps}
use Rattle.propagation.proofs.laws.back_keeps.Goals as goal

pub returns : goal.returns
returns c = back_keeps
