use Rattle.refutation_tests.proofs.SmallLaws.{named, unnamed}
use Rattle.refutation_tests.proofs.small.SmallRuleSource.clause_of.Goals as goal

pub returns-in_default : goal.returns-in_default
returns-in_default c = unnamed c.args.rule.now c.in_default.ensures

pub returns : goal.returns
returns c = named c.in-Some.kind c.args.rule.now c.in_ok-clause.clause c.in-Some.ensures c.in_ok-clause.ensures
