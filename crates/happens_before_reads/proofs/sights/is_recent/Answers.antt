-- By the two tests.
use Rattle.happens_before_reads.proofs.Seeing.{is_not, later_no, recent_exactly}
use Rattle.happens_before_reads.proofs.sights.is_recent.Goals as goal

pub returns-then-is_later : goal.returns-then-is_later
returns-then-is_later c x action named = later_no c.args.orders.now c.args.at c.args.places.now x c.is_later.result (c.is_later.ensures x action named) c.if-is_later.true

pub returns : goal.returns
returns c x action named =
    recent_exactly c.args.orders.now c.args.at c.args.places.now x c.is_later.result c.is_overwritten.result _ (c.is_later.ensures x action named) c.if-is_later.false (c.is_overwritten.ensures x action named) (is_not c.is_overwritten.result)
