-- One more place.
use Rattle.std.proofs.Common.{◌∙◌, Some, ap, sym, arith}
use Rattle.action_orders.specs.declared.action.Action.{Action}
use Rattle.least_break.proofs.Scans.{scanned_more}
use Rattle.happens_before_reads.specs.Sights.{IsConsistentAtPlace}
use Rattle.happens_before_reads.proofs.Scanning.{id_at}
use Rattle.happens_before_reads.proofs.check.scan.Goals as goal

pub loop-at-preserved : goal.loop-at-preserved
loop-at-preserved c =
    scanned_more (IsConsistentAtPlace c.args.orders.now) c.args.orders.now.flat.ids.keys c.loop-at.at c.action.result.now.id c.loop-at.least c.noted-least.result c.in_ok-fits.fits
    (id_at c.args.orders.now c.loop-at.at c.requires.made (omega arith) ∙ ap (λ (a : Action). Some a.id) (sym c.action.ensures.same)) c.in_ok-fits.ensures.0 c.in_ok-fits.ensures.1 c.noted-least.ensures c.loop-at.invariant
