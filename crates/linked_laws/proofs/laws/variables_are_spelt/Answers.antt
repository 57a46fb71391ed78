-- The law.
use Rattle.linked_laws.proofs.Variables.{variables_are_spelt}
use Rattle.linked_laws.proofs.laws.variables_are_spelt.Goals as goal

pub returns : goal.returns
returns c = variables_are_spelt
