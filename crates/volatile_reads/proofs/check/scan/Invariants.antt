-- The last writes before the place, and the least read that breaks the clause.
use Rattle.orders.specs.Symbols.{symbols}
use Rattle.least_break.specs.Least.{IsScanned}
use Rattle.volatile_reads.specs.LastWrites.{AreLastWrites, IsConsistentAtPlace}
use Rattle.volatile_reads.proofs.check.scan.Given as goal

abbrev pub invariant-loop-at : goal.invariant-loop-at
invariant-loop-at l = record {
  last : AreLastWrites l.orders.flat.program.now l.orders.flat.execution.now (symbols l.orders.channels) l.at l.last;
  scanned : IsScanned (IsConsistentAtPlace l.orders.flat.program.now l.orders.flat.execution.now) l.orders.flat.execution.now.so l.at l.least;
}
