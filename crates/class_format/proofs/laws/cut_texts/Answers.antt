use Rattle.class_format.proofs.FaultStays.{cut_texts}
use Rattle.class_format.proofs.laws.cut_texts.Goals as goal

pub returns : goal.returns
returns c = cut_texts
