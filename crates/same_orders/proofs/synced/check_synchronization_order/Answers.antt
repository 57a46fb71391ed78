-- All members in a line.
use Rattle.std.proofs.Common.{sym, subst, length}
use Rattle.same_orders.specs.Synced.{AreSyncMembers}
use Rattle.same_orders.proofs.SyncMeeting.{least_unlike}
use Rattle.same_orders.proofs.synced.check_synchronization_order.Goals as goal

pub scan-requires-clause-members : goal.scan-requires-clause-members
scan-requires-clause-members c = subst (AreSyncMembers c.args.stage.now (length c.args.stage.now.own.now.flat.execution.now.so)) (sym c.in_ok-line.ensures.members) c.in_ok-sync_members.ensures

pub returns : goal.returns
returns c =
    least_unlike c.args.stage.now c.in_ok-line.line.members.items c.scan.result c.requires.stage c.requires.present
    (subst (AreSyncMembers c.args.stage.now (length c.args.stage.now.own.now.flat.execution.now.so)) (sym c.in_ok-line.ensures.members) c.in_ok-sync_members.ensures) c.scan.ensures
