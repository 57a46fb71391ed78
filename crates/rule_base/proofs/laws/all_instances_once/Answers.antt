use Rattle.rule_base.proofs.EachOnce.{instance_listed, listed_instance, listed_once}
use Rattle.rule_base.proofs.laws.all_instances_once.Goals as goal

pub returns-clause-sound : goal.returns-clause-sound
returns-clause-sound c = λ q rows i h. listed_instance q rows i h

pub returns-clause-complete : goal.returns-clause-complete
returns-clause-complete c = λ q rows place args h. instance_listed q rows place args h

pub returns-clause-once : goal.returns-clause-once
returns-clause-once c = λ q rows. listed_once q rows
