use Rattle.class_format.proofs.FaultStays.{beginnings}
use Rattle.class_format.proofs.laws.beginnings.Goals as goal

pub returns : goal.returns
returns c = beginnings
