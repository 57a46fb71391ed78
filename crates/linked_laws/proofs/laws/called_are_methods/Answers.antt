-- The law.
use Rattle.linked_laws.proofs.Calling.{called_are_methods}
use Rattle.linked_laws.proofs.laws.called_are_methods.Goals as goal

pub returns : goal.returns
returns c classes p caller called is = called_are_methods classes p is caller called
