use Rattle.class_format.proofs.Classes.{one_record}
use Rattle.class_format.proofs.laws.one_record.Goals as goal

pub returns : goal.returns
returns c = one_record
