-- The law.
use Rattle.untyped_program.proofs.OneUntyped.{one_untyped}
use Rattle.untyped_program.proofs.laws.one_untyped_program.Goals as goal

pub returns : goal.returns
returns c = one_untyped
