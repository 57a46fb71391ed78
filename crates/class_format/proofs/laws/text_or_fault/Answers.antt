use Rattle.class_format.proofs.ClassFaults.{text_or_fault, never_both}
use Rattle.class_format.proofs.laws.text_or_fault.Goals as goal

pub returns : goal.returns
returns c = (text_or_fault, never_both)
