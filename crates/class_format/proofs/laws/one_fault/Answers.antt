use Rattle.class_format.proofs.ClassFaults.{one_fault}
use Rattle.class_format.proofs.laws.one_fault.Goals as goal

pub returns : goal.returns
returns c = one_fault
