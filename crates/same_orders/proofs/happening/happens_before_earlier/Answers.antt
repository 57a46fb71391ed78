-- By the greatest place.
use Rattle.same_orders.proofs.Along.{greatest_inside, earlier_exactly}
use Rattle.same_orders.proofs.happening.happens_before_earlier.Goals as goal

pub happens_before-requires-clause-second : goal.happens_before-requires-clause-second
happens_before-requires-clause-second c = greatest_inside c.args.stage.now c.args.line.now.members.items c.args.below c.in-Some.greatest c.greatest_below.result c.requires.row c.greatest_below.ensures c.in-Some.is

pub returns-in-Some : goal.returns-in-Some
returns-in-Some c =
    earlier_exactly c.args.stage.now c.args.line.now.members.items c.args.at c.args.below c.in-Some.greatest c.greatest_below.result c.happens_before.result c.requires.stage c.requires.row c.greatest_below.ensures c.in-Some.is c.happens_before.ensures
