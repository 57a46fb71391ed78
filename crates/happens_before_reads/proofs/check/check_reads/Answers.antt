-- The pass finds the least.
use Rattle.happens_before_reads.proofs.Scanning.{least_of_all}
use Rattle.happens_before_reads.proofs.check.check_reads.Goals as goal

pub returns : goal.returns
returns c = least_of_all c.args.orders.now c.scan.result c.requires c.scan.ensures
