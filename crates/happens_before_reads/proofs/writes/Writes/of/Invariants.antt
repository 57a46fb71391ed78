-- The writes before the place.
use Rattle.happens_before_reads.specs.Writes.{AreAllWrites}
use Rattle.happens_before_reads.proofs.writes.Writes.of.Given as goal

abbrev pub invariant-loop-at : goal.invariant-loop-at
invariant-loop-at l = AreAllWrites l.orders l.at l.writes.lists.items
