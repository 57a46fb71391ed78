-- One more place.
use Rattle.std.proofs.Common.{sym}
use Rattle.std.proofs.lemmas.Option.{slice_get-get_or}
use Rattle.least_break.proofs.Scans.{scanned_more}
use Rattle.volatile_reads.specs.LastWrites.{IsConsistentAtPlace}
use Rattle.volatile_reads.proofs.check.scan.Goals as goal

pub loop-at-preserved : goal.loop-at-preserved
loop-at-preserved c = record {
  last = c.pass.ensures;
  scanned = scanned_more (IsConsistentAtPlace c.args.orders.now.flat.program.now c.args.orders.now.flat.execution.now) c.args.orders.now.flat.execution.now.so c.loop-at.at _ c.loop-at.least c.noted-least.result c.sees_last-fits.result
      (rw (sym c.so-so.ensures) (slice_get-get_or c.so-so.result.now c.loop-at.at 0 c.loop-at-test.true)) c.sees_last-fits.ensures.0 c.sees_last-fits.ensures.1 c.noted-least.ensures c.loop-at.invariant.scanned;
}
