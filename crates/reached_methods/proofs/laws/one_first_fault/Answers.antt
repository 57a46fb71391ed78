use Rattle.reached_methods.proofs.OneFault.{one_first}
use Rattle.reached_methods.proofs.laws.one_first_fault.Goals as goal

pub returns : goal.returns
returns c = one_first
