-- The law.
use Rattle.linked_laws.proofs.Ordered.{are_ordered}
use Rattle.linked_laws.proofs.laws.are_ordered.Goals as goal

pub returns : goal.returns
returns c = are_ordered
