-- By the table of identifiers.
use Rattle.orders.proofs.Placing.{placed_at, no_place}
use Rattle.orders.proofs.answers.Orders.place.Goals as goal

pub returns-clause-found : goal.returns-clause-found
returns-clause-found c = placed_at c.args.self.now c.args.id c.number_of.result c.requires c.number_of.ensures.found

pub returns-clause-none : goal.returns-clause-none
returns-clause-none c = no_place c.args.self.now c.args.id c.number_of.result c.requires c.number_of.ensures.there
