-- The least read that breaks the clause.
use Rattle.least_break.specs.Least.{IsScanned}
use Rattle.happens_before_reads.specs.Sights.{IsConsistentAtPlace}
use Rattle.happens_before_reads.proofs.check.scan.Given as goal

abbrev pub invariant-loop-at : goal.invariant-loop-at
invariant-loop-at l = IsScanned (IsConsistentAtPlace l.orders) l.orders.flat.ids.keys l.at l.least
