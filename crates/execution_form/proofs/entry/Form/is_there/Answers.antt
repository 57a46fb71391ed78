-- The program's facts.
use Rattle.std.proofs.Common.{ap, ap₂}
use Rattle.execution_form.specs.Facts.{HasVariable, HasMonitor, stated}
use Rattle.execution_form.proofs.Passing.{fact_so}
use Rattle.execution_form.proofs.entry.Form.is_there.Goals as goal

pub returns-in-Variable : goal.returns-in-Variable
returns-in-Variable c = rw c.in-Variable.is (fact_so c.args.self.now.program.now c.args.self.now.execution.now (stated c.args.self.now.facts) _ (HasVariable c.in-Variable.class c.in-Variable.name) c.has.result c.requires.facts
    (ap₂ HasVariable c.as_slice.ensures.value c.as_slice-in-Variable.ensures.value) c.has.ensures)

pub returns-in-Monitor : goal.returns-in-Monitor
returns-in-Monitor c = rw c.in-Monitor.is (fact_so c.args.self.now.program.now c.args.self.now.execution.now (stated c.args.self.now.facts) _ (HasMonitor c.in-Monitor.class) c.has-in-Monitor.result c.requires.facts
    (ap HasMonitor c.as_slice-in-Monitor.ensures.value) c.has-in-Monitor.ensures)
