-- The identifiers so far.
use Rattle.std.proofs.Common.{◌≡◌, take}
use Rattle.entry_tables.proofs.id_set.IdSet.of.Given as goal

abbrev pub invariant-loop-id : goal.invariant-loop-id
invariant-loop-id l = l.set ≡ take l.id-index l.ids
