-- By the names of the two.
use Rattle.std.proofs.Common.{ap}
use Rattle.action_orders.specs.declared.action.Action.{Action}
use Rattle.happens_before_reads.proofs.Seeing.{later_named}
use Rattle.happens_before_reads.proofs.sights.is_later.Goals as goal

pub returns : goal.returns
returns c x action named = later_named c.args.orders.now c.args.at c.action.result.now.id x c.args.write.now c.hb.result c.requires.made c.requires.inside (ap (λ (a : Action). a.id) c.action.ensures.same) action named c.hb.ensures
