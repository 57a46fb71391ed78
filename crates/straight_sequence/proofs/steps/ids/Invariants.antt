-- The identifiers of the actions up to the index.
use Rattle.std.proofs.Common.{◌≡◌, take}
use Rattle.straight_sequence.specs.Steps.{ids_of}
use Rattle.straight_sequence.proofs.steps.ids.Given as goal

abbrev pub invariant-loop-entry : goal.invariant-loop-entry
invariant-loop-entry l = l.members.items ≡ ids_of l.reads (take l.entry-index l.entries)
