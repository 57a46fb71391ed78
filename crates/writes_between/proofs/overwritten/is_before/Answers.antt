-- By the names of the two.
use Rattle.std.proofs.Common.{ap}
use Rattle.action_orders.specs.declared.action.Action.{Action}
use Rattle.writes_between.proofs.Passing.{before_named}
use Rattle.writes_between.proofs.overwritten.is_before.Goals as goal

pub returns : goal.returns
returns c x action named = before_named c.args.orders.now c.args.place c.action.result.now.id x c.args.write.now c.hb.result c.requires.made c.requires.inside (ap (λ (a : Action). a.id) c.action.ensures.same) action named c.hb.ensures
