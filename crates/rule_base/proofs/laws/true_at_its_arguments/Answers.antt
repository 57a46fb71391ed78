use Rattle.rule_base.proofs.TrueRules.{literal_of, rule_of}
use Rattle.rule_base.proofs.laws.true_at_its_arguments.Goals as goal

pub returns-clause-literal : goal.returns-clause-literal
returns-clause-literal c = λ q value rule args t a. literal_of q value rule args t a

pub returns-clause-rule : goal.returns-clause-rule
returns-clause-rule c = λ q value rule h. rule_of q value rule h
