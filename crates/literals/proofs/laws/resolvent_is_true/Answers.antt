use Rattle.literals.proofs.Consequence.{resolvent_is_true}
use Rattle.literals.proofs.laws.resolvent_is_true.Goals as goal

pub returns : goal.returns
returns c = resolvent_is_true
