-- The least read that breaks the condition.
use Rattle.least_break.specs.Least.{IsScanned}
use Rattle.committed_reads.specs.Early.{ReadsFirst}
use Rattle.committed_reads.proofs.first.check_uncommitted_reads.Given as goal

abbrev pub invariant-loop-at : goal.invariant-loop-at
invariant-loop-at l = IsScanned (ReadsFirst l.stage l.earlier) l.stage.own.now.flat.ids.keys l.at l.least
