use Rattle.rule_base.proofs.Named.{names_each, names_only, names_once}
use Rattle.rule_base.proofs.naming.instances_are_named.Goals as goal

pub returns-clause-each : goal.returns-clause-each
returns-clause-each c = names_each

pub returns-clause-only : goal.returns-clause-only
returns-clause-only c = names_only

pub returns-clause-once : goal.returns-clause-once
returns-clause-once c = names_once
