-- One more item.
use Rattle.std.proofs.Common.{◌∙◌, Some, ap, sym, subst}
use Rattle.std.proofs.lemmas.Option.{slice_get-get_or}
use Rattle.entry_tables.specs.Added.{IsAdded}
use Rattle.entry_tables.proofs.Adding.{added_more}
use Rattle.execution_form.specs.Facts.{HasMonitor, stated, monitor_of}
use Rattle.execution_form.proofs.Gathering.{to_the_end}
use Rattle.execution_form.proofs.facts.add_monitors.Goals as goal

pub loop-monitor-preserved : goal.loop-monitor-preserved
loop-monitor-preserved c = added_more (stated c.args.facts.now) (stated c.loop-monitor.facts) (stated c.add.new.self) monitor_of c.args.monitors.now c.loop-monitor.monitor-index c.monitor-item.result
    (slice_get-get_or c.args.monitors.now c.loop-monitor.monitor-index _ c.loop-monitor-test.true ∙ ap Some (sym c.monitor-item.is)) c.loop-monitor.invariant
    (subst (λ o. IsAdded (stated c.loop-monitor.facts) o (stated c.add.new.self)) (ap (λ class. Some (HasMonitor class)) c.as_slice.ensures.value) c.in_ok-add.ensures)

pub returns : goal.returns
returns c = to_the_end (stated c.args.facts.now) monitor_of c.args.monitors.now c.loop-monitor.monitor-index (stated c.loop-monitor.facts) c.loop-monitor-test.false c.loop-monitor.invariant
