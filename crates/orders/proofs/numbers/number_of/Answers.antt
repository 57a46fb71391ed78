-- The place of an identifier among the keys.
use Rattle.orders.proofs.Keys.{found_id, position_there, there_position}
use Rattle.orders.proofs.numbers.number_of.Goals as goal

pub returns-clause-found : goal.returns-clause-found
returns-clause-found c = found_id c.args.set.now.keys c.args.id c.get_index_of.result c.get_index_of.ensures.index

pub returns-clause-there : goal.returns-clause-there
returns-clause-there c = (
  there_position c.args.set.now.keys c.args.id c.get_index_of.result c.get_index_of.ensures.index,
  λ there. position_there c.args.set.now.keys c.args.id c.get_index_of.result c.get_index_of.ensures.found there,
)
