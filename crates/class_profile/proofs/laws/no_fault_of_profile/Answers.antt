-- The kind with the fault has none.
use Rattle.class_profile.proofs.KindOrder.{refuted}
use Rattle.class_profile.proofs.laws.no_fault_of_profile.Goals as goal

pub returns : goal.returns
returns c = λ classes kind class first of_profile. refuted classes kind class first.fault (of_profile kind)
