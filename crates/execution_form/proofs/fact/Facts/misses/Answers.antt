-- A fact that is excluded, or none.
use Rattle.execution_form.specs.Facts.{stated, stated_by}
use Rattle.execution_form.proofs.Stating.{misses_one, misses_none}
use Rattle.execution_form.proofs.fact.Facts.misses.Goals as goal

pub returns-in-Some : goal.returns-in-Some
returns-in-Some c = rw c.in-Some.is (misses_one (stated c.args.self.now) (stated_by c.in-Some.fact) c.has.result c.has.ensures)

pub returns-in-None : goal.returns-in-None
returns-in-None c = rw c.in-None.is (misses_none (stated c.args.self.now))
