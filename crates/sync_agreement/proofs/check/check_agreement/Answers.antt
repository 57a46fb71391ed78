-- The pass finds the least.
use Rattle.std.proofs.Common.{length, map, subst}
use Rattle.action_orders.specs.Actions.{entries}
use Rattle.action_orders.specs.Execution.{Exec, IsExecution}
use Rattle.action_orders.specs.Spelling.{IsSpelt}
use Rattle.action_orders.specs.WellFormed.{AgreesAt}
use Rattle.least_break.specs.Least.{IsScanned, IsLeastBreak}
use Rattle.sync_agreement.specs.Placed.{IsRightlyPlaced}
use Rattle.sync_agreement.proofs.Agreeing.{least_agreement}
use Rattle.sync_agreement.proofs.check.check_agreement.Goals as goal

pub returns-clause-least : goal.returns-clause-least
returns-clause-least c = least_agreement c.args.program.now c.args.execution.now c.scan.result c.requires
    (subst IsExecution c.in_ok-placed.ensures.of_execution c.in_ok-placed.ensures.made.shape)
    (subst (λ (e : Exec). IsScanned (IsRightlyPlaced e) (map (λ n. n.action.id) (entries e)) (length (entries e)) c.scan.result) c.in_ok-placed.ensures.of_execution c.scan.ensures)

pub returns-clause-ordered : goal.returns-clause-ordered
returns-clause-ordered c = λ none. record {
  shape = subst IsExecution c.in_ok-placed.ensures.of_execution c.in_ok-placed.ensures.made.shape;
  spelt = subst IsSpelt c.in_ok-placed.ensures.of_execution c.in_ok-placed.ensures.made.spelt;
  form = c.requires;
  agrees = subst (IsLeastBreak (AgreesAt c.args.program.now c.args.execution.now)) none (least_agreement c.args.program.now c.args.execution.now c.scan.result c.requires
      (subst IsExecution c.in_ok-placed.ensures.of_execution c.in_ok-placed.ensures.made.shape)
      (subst (λ (e : Exec). IsScanned (IsRightlyPlaced e) (map (λ n. n.action.id) (entries e)) (length (entries e)) c.scan.result) c.in_ok-placed.ensures.of_execution c.scan.ensures));
}
