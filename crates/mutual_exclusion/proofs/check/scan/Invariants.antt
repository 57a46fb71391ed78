-- The counts before the place, and the least lock that breaks the clause.
use Rattle.action_orders.specs.WellFormed.{locks, unlocks}
use Rattle.orders.specs.Symbols.{symbols}
use Rattle.least_break.specs.Least.{IsScanned}
use Rattle.mutual_exclusion.specs.Locking.{IsTally, ExcludesAtPlace}
use Rattle.mutual_exclusion.proofs.check.scan.Given as goal

abbrev pub invariant-loop-at : goal.invariant-loop-at
invariant-loop-at l = record {
  locks : IsTally l.orders.flat.execution.now locks (symbols l.orders.channels) l.at l.locked;
  unlocks : IsTally l.orders.flat.execution.now unlocks (symbols l.orders.channels) l.at l.unlocked;
  scanned : IsScanned (ExcludesAtPlace l.orders.flat.execution.now) l.orders.flat.execution.now.so l.at l.least;
}
