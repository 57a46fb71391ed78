-- One more entry.
use Rattle.std.proofs.Common.{map}
use Rattle.action_orders.specs.Actions.{entries}
use Rattle.least_break.proofs.Scans.{scanned_more}
use Rattle.sync_agreement.specs.Placed.{IsRightlyPlaced}
use Rattle.sync_agreement.proofs.Agreeing.{id_at}
use Rattle.sync_agreement.proofs.check.scan.Goals as goal

pub loop-at-preserved : goal.loop-at-preserved
loop-at-preserved c =
    let e = c.args.placed.now.execution.now in
    record {
      own = c.pass.ensures;
      scanned = scanned_more (IsRightlyPlaced e) (map (λ n. n.action.id) (entries e)) c.loop-at.at c.action-action.result.now.id c.loop-at.least c.noted-least.result c.is_rightly_placed-fits.result
          (id_at c.args.placed.now.program.now e c.loop-at.at c.action-action.result.now c.action-action.ensures.at)
          c.is_rightly_placed-fits.ensures.0 c.is_rightly_placed-fits.ensures.1 c.noted-least.ensures c.loop-at.invariant.scanned;
    }
