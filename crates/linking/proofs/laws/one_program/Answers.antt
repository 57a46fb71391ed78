-- One list of methods, one untyped program of it, and one typing of each method.
use Rattle.linking.proofs.OneProgram.{one_program}
use Rattle.linking.proofs.laws.one_program.Goals as goal

pub returns : goal.returns
returns c = one_program c.one_list.ensures c.one_untyped_program.ensures c.one_typing.ensures
