-- What the items so far give.
use Rattle.entry_tables.specs.Added.{AreAdded}
use Rattle.execution_form.specs.Facts.{stated, volatile_named}
use Rattle.execution_form.proofs.facts.add_volatiles.Given as goal

abbrev pub invariant-loop-variable : goal.invariant-loop-variable
invariant-loop-variable l = AreAdded (stated l.initial.facts) volatile_named l.variables l.variable-index (stated l.facts)
