-- By the order of the kinds.
use Rattle.class_profile.proofs.KindOrder.{one_fault}
use Rattle.class_profile.proofs.laws.one_first_fault.Goals as goal

pub returns : goal.returns
returns c = λ classes kind other class named first second. one_fault classes kind other class named first second
