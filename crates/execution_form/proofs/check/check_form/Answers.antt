-- Both passes together.
use Rattle.std.proofs.Common.{◌∙◌, ap}
use Rattle.entry_tables.specs.Lists.{seen}
use Rattle.execution_form.proofs.Forming.{least_form}
use Rattle.execution_form.proofs.check.check_form.Goals as goal

pub scan_order-requires-clause-synchronizing : goal.scan_order-requires-clause-synchronizing
scan_order-requires-clause-synchronizing c = λ id. c.in_ok-synchronizing.ensures c.args.execution.now id (ap seen c.deref-2.ensures.value ∙ c.in_ok-entries.ensures.all)

pub returns : goal.returns
returns c = least_form c.args.program.now c.args.execution.now c.in_ok-in_order.in_order c.in_ok-in_threads.in_threads c.lesser.result c.in_ok-entries.ensures.shape c.in_ok-in_order.ensures.scanned c.in_ok-in_threads.ensures c.lesser.ensures
