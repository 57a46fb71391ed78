-- What the items so far give.
use Rattle.entry_tables.specs.Added.{AreAdded}
use Rattle.execution_form.specs.Facts.{stated, variable_of}
use Rattle.execution_form.proofs.facts.add_variables.Given as goal

abbrev pub invariant-loop-variable : goal.invariant-loop-variable
invariant-loop-variable l = AreAdded (stated l.initial.facts) variable_of l.variables l.variable-index (stated l.facts)
