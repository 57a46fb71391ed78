use Rattle.solver_tests.proofs.Places.{pushed-higher, upto-higher}
use Rattle.solver_tests.proofs.ruled.push_higher.Goals as goal

pub returns-clause-apart : goal.returns-clause-apart
returns-clause-apart c = pushed-higher c.push.result c.args.clause.now c.push.new.self c.args.lit c.args.last c.requires.apart c.requires.upto c.requires.higher c.push.ensures.ok

pub returns-clause-upto : goal.returns-clause-upto
returns-clause-upto c = upto-higher c.push.result c.args.clause.now c.push.new.self c.args.lit c.args.last c.requires.upto c.requires.higher c.push.ensures.ok
