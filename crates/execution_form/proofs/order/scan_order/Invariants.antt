-- The identifiers so far, and the least one that is wrong.
use Rattle.std.proofs.Common.{[]}
use Rattle.entry_tables.specs.Added.{AreAdded}
use Rattle.least_break.specs.Least.{IsScanned}
use Rattle.execution_form.specs.Form.{IsRightAtPlace}
use Rattle.execution_form.proofs.Passing.{of_id}
use Rattle.execution_form.proofs.order.scan_order.Given as goal

abbrev pub invariant-loop-at : goal.invariant-loop-at
invariant-loop-at l = record {
  listed : AreAdded [] of_id l.execution.so l.at l.listed;
  scanned : IsScanned (IsRightAtPlace l.execution) l.execution.so l.at l.least;
}
