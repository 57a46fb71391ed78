-- The last places of each thread so far, and the least identifier of an action that comes too early.
use Rattle.std.proofs.Common.{map}
use Rattle.action_orders.specs.Actions.{entries}
use Rattle.least_break.specs.Least.{IsScanned}
use Rattle.sync_agreement.specs.declared.gate.Gate.TheVariants as gate
use Rattle.sync_agreement.specs.Latest.{AreLatest}
use Rattle.sync_agreement.specs.Placed.{IsRightlyPlaced}
use Rattle.sync_agreement.proofs.check.scan.Given as goal

abbrev pub invariant-loop-at : goal.invariant-loop-at
invariant-loop-at l = record {
  own : AreLatest l.placed.execution.now gate.Thread l.at l.own;
  scanned : IsScanned (IsRightlyPlaced l.placed.execution.now) (map (λ n. n.action.id) (entries l.placed.execution.now)) l.at l.least;
}
