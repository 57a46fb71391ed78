use Rattle.class_format.proofs.FaultStays.{fault_stays}
use Rattle.class_format.proofs.laws.fault_stays.Goals as goal

pub returns : goal.returns
returns c = fault_stays
