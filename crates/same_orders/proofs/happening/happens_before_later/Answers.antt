-- By the least place.
use Rattle.same_orders.proofs.Along.{least_inside, later_exactly}
use Rattle.same_orders.proofs.happening.happens_before_later.Goals as goal

pub happens_before-requires-clause-second : goal.happens_before-requires-clause-second
happens_before-requires-clause-second c = least_inside c.args.stage.now c.args.line.now.members.items c.args.from c.in-Some.least c.least_from.result c.requires.row c.least_from.ensures c.in-Some.is

pub returns-in-Some : goal.returns-in-Some
returns-in-Some c = later_exactly c.args.stage.now c.args.line.now.members.items c.args.at c.args.from c.in-Some.least c.least_from.result c.happens_before.result c.requires.stage c.requires.row c.least_from.ensures c.in-Some.is c.happens_before.ensures
