-- The members before the place.
use Rattle.same_orders.specs.Synced.{AreSyncMembers}
use Rattle.same_orders.proofs.synced.sync_members.Given as goal

abbrev pub invariant-loop-own : goal.invariant-loop-own
invariant-loop-own l = AreSyncMembers l.stage l.own l.ms.items
