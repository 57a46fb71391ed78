use Rattle.class_format.proofs.Classes.{bytes_behind}
use Rattle.class_format.proofs.laws.bytes_behind.Goals as goal

pub returns : goal.returns
returns c = bytes_behind
