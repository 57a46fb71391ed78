-- The law.
use Rattle.linked_laws.proofs.Entries.{entries_are_methods}
use Rattle.linked_laws.proofs.laws.entries_are_methods.Goals as goal

pub returns : goal.returns
returns c classes p id is = entries_are_methods classes p is id
