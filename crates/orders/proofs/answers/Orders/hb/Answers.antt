-- The names are those of actions.
use Rattle.action_orders.specs.HappensBefore.{HappensBefore}
use Rattle.orders.proofs.Said.{relates_at, not_at, never_default, prog, exec}
use Rattle.orders.proofs.answers.Orders.hb.Goals as goal

pub returns-in-Some : goal.returns-in-Some
returns-in-Some c = relates_at c.args.self.now c.args.a.now c.args.b.now c.in-Id-Id.first c.in-Id-Id.second c.in-Some.i c.in-Some.j (HappensBefore (prog c.args.self.now) (exec c.args.self.now)) c.happens_before.result c.requires c.in-Id-Id.is-0 c.in-Id-Id.is-1 c.in-Some.ensures.found c.happens_before.ensures

pub returns-in-None : goal.returns-in-None
returns-in-None c = not_at c.args.self.now c.args.a.now c.args.b.now c.in-Id-Id.first c.in-Id-Id.second (HappensBefore (prog c.args.self.now) (exec c.args.self.now)) c.in-Id-Id.is-0 c.in-Id-Id.is-1 c.in-None.ensures.none

pub returns-in_default : goal.returns-in_default
returns-in_default c = never_default c.args.self.now c.args.a.now c.args.b.now c.in_default.field-0-1 c.in_default.field-1-1 c.requires c.in_default.is-1

pub returns-in_default-2 : goal.returns-in_default-2
returns-in_default-2 c = never_default c.args.self.now c.args.a.now c.args.b.now c.in_default.field-0-1 c.in_default.field-1-1 c.requires c.in_default.is-1
