-- A key is there.
use Rattle.execution_form.proofs.Stating.{fact_there}
use Rattle.execution_form.proofs.fact.Facts.has.Goals as goal

pub returns : goal.returns
returns c = fact_there c.args.self.now.set.keys c.args.fact c.contains.result c.contains.ensures
