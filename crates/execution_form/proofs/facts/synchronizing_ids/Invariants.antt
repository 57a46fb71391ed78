-- The identifiers of the entries so far.
use Rattle.std.proofs.Common.{[]}
use Rattle.entry_tables.specs.Added.{AreAdded}
use Rattle.entry_tables.specs.Lists.{seen}
use Rattle.execution_form.specs.Needs.{synced_by}
use Rattle.execution_form.proofs.facts.synchronizing_ids.Given as goal

abbrev pub invariant-loop-entry : goal.invariant-loop-entry
invariant-loop-entry l = AreAdded [] synced_by (seen l.flat) l.entry-index l.ids
