-- By the first action of the thread.
use Rattle.same_orders.proofs.Firsts.{defaults_first}
use Rattle.same_orders.proofs.laws.defaults_come_first.Goals as goal

pub returns : goal.returns
returns c p e formed v a there action = defaults_first p e v a formed there action
