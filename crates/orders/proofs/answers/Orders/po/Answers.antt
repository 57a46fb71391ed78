-- The names are those of actions.
use Rattle.action_orders.specs.Orders.{ProgramOrder}
use Rattle.orders.proofs.Said.{relates_at, not_at, exec}
use Rattle.orders.proofs.answers.Orders.po.Goals as goal

pub returns-in-Some : goal.returns-in-Some
returns-in-Some c = relates_at c.args.self.now c.args.a.now c.args.b.now c.in-Id-Id.first c.in-Id-Id.second c.in-Some.i c.in-Some.j (ProgramOrder (exec c.args.self.now)) c.stands_before.result c.requires c.in-Id-Id.is-0 c.in-Id-Id.is-1 c.in-Some.ensures.found c.stands_before.ensures

pub returns-in-None : goal.returns-in-None
returns-in-None c = not_at c.args.self.now c.args.a.now c.args.b.now c.in-Id-Id.first c.in-Id-Id.second (ProgramOrder (exec c.args.self.now)) c.in-Id-Id.is-0 c.in-Id-Id.is-1 c.in-None.ensures.none
