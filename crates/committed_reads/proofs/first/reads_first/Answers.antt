-- Committed before, or by what it sees.
use Rattle.orders.proofs.Said.{not_true}
use Rattle.committed_reads.proofs.Firsts.{early_reads, late_reads}
use Rattle.committed_reads.proofs.first.reads_first.Goals as goal

pub returns-then-is_early : goal.returns-then-is_early
returns-then-is_early c = early_reads c.args.stage.now c.args.earlier.now c.args.at c.is_early.result c.is_early.ensures c.if-is_early.true

pub returns : goal.returns
returns c =
    late_reads c.args.stage.now c.args.earlier.now c.args.at c.is_early.result c.in_ok-fits.fits c.is_early.ensures (λ early. not_true c.is_early.result c.if-is_early.false early) c.in_ok-fits.ensures
