-- The identifiers so far are the keys.
use Rattle.std.proofs.Common.{◌≡◌, take}
use Rattle.orders.proofs.numbers.numbers.Given as goal

abbrev pub invariant-loop-id : goal.invariant-loop-id
invariant-loop-id l = l.set.keys ≡ take l.id-index l.ids
