-- In both executions.
use Rattle.std.proofs.Common.{ap}
use Rattle.action_orders.specs.declared.action.Action.{Action}
use Rattle.committed_reads.proofs.Committing.{committed_twice}
use Rattle.committed_reads.proofs.now.reads_committed.Goals as goal

pub returns : goal.returns
returns c =
    committed_twice c.args.stage.now c.args.earlier.now c.args.member c.action.result.now.id c.has.result c.in_ok-sees_committed.field-0 c.in_ok-fits.fits (ap (λ (a : Action). a.id) c.action.ensures.same) c.has.ensures c.if-has.false
    c.in_ok-sees_committed.ensures c.if-not-branch.false c.in_ok-fits.ensures
