-- The identifiers of the entries so far, and the least one that is wrong.
use Rattle.std.proofs.Common.{[], map}
use Rattle.action_orders.specs.Actions.{entries}
use Rattle.entry_tables.specs.Added.{AreAdded}
use Rattle.least_break.specs.Least.{IsScanned}
use Rattle.execution_form.specs.Form.{IsRightAt}
use Rattle.execution_form.proofs.Passing.{id_of}
use Rattle.execution_form.proofs.entry.Form.scan_entries.Given as goal

abbrev pub invariant-loop-at : goal.invariant-loop-at
invariant-loop-at l = record {
  found : AreAdded [] id_of (entries l.self.execution.now) l.at l.found;
  scanned : IsScanned (IsRightAt l.self.program.now l.self.execution.now) (map (λ n. n.action.id) (entries l.self.execution.now)) l.at l.least;
}
