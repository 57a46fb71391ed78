-- A fact that is needed, or none.
use Rattle.execution_form.specs.Facts.{stated, stated_by}
use Rattle.execution_form.proofs.Stating.{meets_one, meets_none}
use Rattle.execution_form.proofs.fact.Facts.meets.Goals as goal

pub returns-in-Some : goal.returns-in-Some
returns-in-Some c = rw c.in-Some.is (meets_one (stated c.args.self.now) (stated_by c.in-Some.fact) c.has.result c.has.ensures)

pub returns-in-None : goal.returns-in-None
returns-in-None c = rw c.in-None.is (meets_none (stated c.args.self.now))
