-- What the items so far give.
use Rattle.entry_tables.specs.Added.{AreAdded}
use Rattle.execution_form.specs.Facts.{stated, monitor_of}
use Rattle.execution_form.proofs.facts.add_monitors.Given as goal

abbrev pub invariant-loop-monitor : goal.invariant-loop-monitor
invariant-loop-monitor l = AreAdded (stated l.initial.facts) monitor_of l.monitors l.monitor-index (stated l.facts)
