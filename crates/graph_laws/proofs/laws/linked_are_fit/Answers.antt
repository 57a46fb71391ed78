-- The law.
use Rattle.graph_laws.proofs.Fit.{linked_are_fit}
use Rattle.graph_laws.proofs.laws.linked_are_fit.Goals as goal

pub returns : goal.returns
returns c classes p is = linked_are_fit classes p is
