-- By the first one in the step's execution.
use Rattle.std.proofs.Common.{subst, List}
use Rattle.step_members.specs.declared.table.Member.{Member}
use Rattle.same_orders.specs.Happening.{IsFirstAfter}
use Rattle.same_orders.proofs.Along.{unlike, alike_exactly}
use Rattle.same_orders.proofs.happening.happens_alike.Goals as goal

pub returns-then-happens_before_earlier : goal.returns-then-happens_before_earlier
returns-then-happens_before_earlier c =
    unlike c.args.stage.now c.args.line.now.members.items c.args.member c.first_after-from.result c.happens_before_earlier.result
    (subst (λ (ms : List Member). IsFirstAfter c.args.stage.now ms c.args.member.own c.first_after-from.result) c.deref.ensures.value c.first_after-from.ensures) c.happens_before_earlier.ensures c.if-happens_before_earlier.true

pub returns : goal.returns
returns c =
    alike_exactly c.args.stage.now c.args.line.now.members.items c.args.member c.first_after-from.result c.happens_before_earlier.result c.happens_before_later.result
    (subst (λ (ms : List Member). IsFirstAfter c.args.stage.now ms c.args.member.own c.first_after-from.result) c.deref.ensures.value c.first_after-from.ensures) c.happens_before_earlier.ensures c.if-happens_before_earlier.false c.happens_before_later.ensures
