use Rattle.std.proofs.Common.{arith}
use Rattle.sequence_text.proofs.TextLaws.{each-failed}
use Rattle.program_listing.specs.ListingText.{monitor_line}
use Rattle.program_listing.proofs.listing.put_monitors.Goals as goal

pub returns-in_err-put_monitor-clause-bytes : goal.returns-in_err-put_monitor-clause-bytes
returns-in_err-put_monitor-clause-bytes g c =
    each-failed monitor_line c.args.monitors.now c.loop-class.class-index c.class-item.result _ _ _ _ (omega arith) c.class-item.is
    c.from_residual.ensures.0 c.loop-class.invariant.grows c.in_err-put_monitor.ensures.bytes
