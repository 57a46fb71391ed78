-- The law.
use Rattle.linked_laws.proofs.Calling.{none_calls_itself}
use Rattle.linked_laws.proofs.laws.none_calls_itself.Goals as goal

pub returns : goal.returns
returns c classes p id is = none_calls_itself classes p is id
