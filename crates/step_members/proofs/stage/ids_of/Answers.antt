-- One more member.
use Rattle.std.proofs.Common.{◌≡◌, List, take, subst, arith}
use Rattle.action_orders.specs.declared.action.ActionRef.{ActionRef}
use Rattle.step_members.specs.Stages.{AreIds}
use Rattle.step_members.proofs.Gaining.{one_more, take_past}
use Rattle.step_members.proofs.stage.ids_of.Goals as goal

pub loop-member-preserved : goal.loop-member-preserved
loop-member-preserved c = one_more c.args.names.now c.loop-member.member-index c.member-item.result c.loop-member.ids.keys c.add.new.ids.keys c.loop-member-test.true c.member-item.is c.in_ok-add.ensures c.loop-member.invariant

pub returns : goal.returns
returns c =
    let all : take c.loop-member.member-index c.args.names.now ≡ c.args.names.now = take_past c.args.names.now c.loop-member.member-index (omega (arith, c.loop-member-test.false)) in
    subst (λ (set : List ActionRef). AreIds set c.loop-member.ids.keys) all c.loop-member.invariant
