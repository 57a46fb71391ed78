use Rattle.sequence_laws.proofs.Merge.{merging}
use Rattle.sequence_laws.proofs.laws.merging.Goals as goal

pub returns : goal.returns
returns c = merging
