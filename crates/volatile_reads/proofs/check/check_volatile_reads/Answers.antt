-- Nothing is written before, and the pass finds the least.
use Rattle.std.proofs.Common.{◌∙◌}
use Rattle.orders.specs.Symbols.{symbols}
use Rattle.volatile_reads.proofs.Placed.{least_read}
use Rattle.volatile_reads.proofs.Writes.{none_written}
use Rattle.volatile_reads.proofs.check.check_volatile_reads.Goals as goal

pub scan-requires-clause-last : goal.scan-requires-clause-last
scan-requires-clause-last c =
    rw c.deref_mut.ensures.value (none_written c.args.orders.now.flat.program.now c.args.orders.now.flat.execution.now (symbols c.args.orders.now.channels) c.in_ok-last.last.items c.requires.made.ordered c.requires.apart
    (c.in_ok-last.ensures.size ∙ c.len.ensures.len) c.in_ok-last.ensures.none)

pub returns : goal.returns
returns c = least_read c.args.orders.now c.scan.result c.requires.made c.scan.ensures
