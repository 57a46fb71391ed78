-- What the entries so far give.
use Rattle.entry_tables.specs.Added.{AreAdded}
use Rattle.entry_tables.specs.Lists.{seen}
use Rattle.execution_form.specs.Facts.{stated}
use Rattle.execution_form.specs.Needs.{written_by}
use Rattle.execution_form.proofs.facts.add_writes.Given as goal

abbrev pub invariant-loop-entry : goal.invariant-loop-entry
invariant-loop-entry l = AreAdded (stated l.initial.facts) written_by (seen l.entries) l.entry-index (stated l.facts)
