use Rattle.sequence_laws.proofs.ByIndex.{by_index}
use Rattle.sequence_laws.proofs.laws.conditions_by_index.Goals as goal

pub returns : goal.returns
returns c = by_index
