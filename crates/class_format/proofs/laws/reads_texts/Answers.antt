use Rattle.class_format.proofs.Classes.{reads_texts}
use Rattle.class_format.proofs.laws.reads_texts.Goals as goal

pub returns : goal.returns
returns c = reads_texts
