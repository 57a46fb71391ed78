use Rattle.reached_methods.proofs.OneList.{one_list_of}
use Rattle.reached_methods.proofs.laws.one_list.Goals as goal

pub returns : goal.returns
returns c = one_list_of
