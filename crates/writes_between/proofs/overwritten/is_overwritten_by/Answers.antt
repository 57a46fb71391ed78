-- By the last action of the thread, or there is none.
use Rattle.writes_between.proofs.Passing.{passed_by, passed_by_none}
use Rattle.writes_between.proofs.overwritten.is_overwritten_by.Goals as goal

pub returns-in-Some : goal.returns-in-Some
returns-in-Some c x action named = passed_by c.args.orders.now c.args.places.now x c.args.thread c.args.at c.in-Some.place c.is_before.result c.requires.made c.requires.within c.in-Some.ensures.found (c.is_before.ensures x action named)

pub returns-in-None : goal.returns-in-None
returns-in-None c x action named = passed_by_none c.args.orders.now c.args.places.now x c.args.thread c.args.at c.in-None.ensures.none
