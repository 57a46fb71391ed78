-- One more fact.
use Rattle.execution_form.specs.Facts.{stated_by}
use Rattle.execution_form.specs.contracts.fact.FactPartialEq.TheImpl.{eq-value}
use Rattle.entry_tables.proofs.Keys.{tells_added}
use Rattle.execution_form.proofs.Stating.{tells}
use Rattle.execution_form.proofs.fact.Facts.add.Goals as goal

pub returns-in-Ok : goal.returns-in-Ok
returns-in-Ok c = tells_added eq-value.it stated_by c.args.self.now.set.keys c.insert_full.new.self.keys c.args.fact tells c.in-Ok.ensures.keys
