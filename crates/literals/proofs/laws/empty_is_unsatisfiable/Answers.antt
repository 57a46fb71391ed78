use Rattle.literals.proofs.Consequence.{empty_is_unsatisfiable}
use Rattle.literals.proofs.laws.empty_is_unsatisfiable.Goals as goal

pub returns : goal.returns
returns c = empty_is_unsatisfiable
