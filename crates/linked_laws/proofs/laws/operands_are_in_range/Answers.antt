-- The law.
use Rattle.linked_laws.proofs.Ranged.{operands_are_in_range}
use Rattle.linked_laws.proofs.laws.operands_are_in_range.Goals as goal

pub returns : goal.returns
returns c classes p m is = operands_are_in_range classes p is m
