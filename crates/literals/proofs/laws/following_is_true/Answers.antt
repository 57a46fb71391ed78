use Rattle.literals.proofs.Consequence.{following_is_true}
use Rattle.literals.proofs.laws.following_is_true.Goals as goal

pub returns : goal.returns
returns c = following_is_true
