use Rattle.sequence_laws.proofs.ByList.{by_list}
use Rattle.sequence_laws.proofs.laws.happens_before_by_list.Goals as goal

pub returns : goal.returns
returns c = by_list
