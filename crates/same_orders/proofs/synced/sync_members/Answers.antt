-- One more place.
use Rattle.step_members.proofs.InOrder.{no_members, with_one}
use Rattle.same_orders.specs.Synced.{IsSyncMember}
use Rattle.same_orders.proofs.SyncPairs.{sync_once}
use Rattle.same_orders.proofs.synced.sync_members.Goals as goal

pub loop-own-init : goal.loop-own-init
loop-own-init c = no_members (IsSyncMember c.args.stage.now) c.new-ms.result.items c.new-ms.ensures.items

pub loop-own-preserved : goal.loop-own-preserved
loop-own-preserved c =
    with_one (IsSyncMember c.args.stage.now) c.loop-own.own c.loop-own.ms.items c.add_member.new.ms.items c.sync_member_at.result (λ m o is_m is_o same. sync_once c.args.stage.now m o c.requires is_m is_o same) c.sync_member_at.ensures.found
    c.sync_member_at.ensures.none c.in_ok-add_member.ensures c.loop-own.invariant
