-- One more place.
use Rattle.step_members.specs.Members.{IsMember}
use Rattle.step_members.proofs.InOrder.{no_members, with_one}
use Rattle.step_members.proofs.Membership.{member_once}
use Rattle.step_members.proofs.table.members.Goals as goal

pub loop-own-init : goal.loop-own-init
loop-own-init c = no_members (IsMember c.args.stage.now) c.new-ms.result.items c.new-ms.ensures.items

pub loop-own-preserved : goal.loop-own-preserved
loop-own-preserved c =
    with_one (IsMember c.args.stage.now) c.loop-own.own c.loop-own.ms.items c.add_member.new.ms.items c.member_at.result (λ m o is_m is_o same. member_once c.args.stage.now m o c.requires.stage is_m is_o same) c.member_at.ensures.found
    c.member_at.ensures.none c.in_ok-add_member.ensures c.loop-own.invariant
