-- The place of a channel among the keys.
use Rattle.orders.proofs.Alike.{found_symbol, position_there, there_position}
use Rattle.orders.proofs.channels.Channels.find.Goals as goal

pub returns-clause-found : goal.returns-clause-found
returns-clause-found c = found_symbol c.args.self.now.set.keys c.args.channel c.get_index_of.result c.get_index_of.ensures.index

pub returns-clause-there : goal.returns-clause-there
returns-clause-there c = (
  there_position c.args.self.now.set.keys c.args.channel c.get_index_of.result c.get_index_of.ensures.index,
  λ there. position_there c.args.self.now.set.keys c.args.channel c.get_index_of.result c.get_index_of.ensures.found there,
)
