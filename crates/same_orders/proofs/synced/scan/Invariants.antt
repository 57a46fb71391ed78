-- The least member that differs.
use Rattle.std.proofs.Common.{map}
use Rattle.least_break.specs.Least.{IsScanned}
use Rattle.same_orders.specs.Synced.{StandsAlike, sync_id}
use Rattle.same_orders.proofs.synced.scan.Given as goal

abbrev pub invariant-loop-at : goal.invariant-loop-at
invariant-loop-at l = IsScanned (StandsAlike l.line.members.items) (map (sync_id l.stage) l.line.members.items) l.at l.least
