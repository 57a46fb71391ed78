-- The identifiers so far.
use Rattle.std.proofs.Common.{◌≡◌, take, map}
use Rattle.orders.specs.Lists.{seen}
use Rattle.orders.proofs.flat.ids_of.Given as goal

abbrev pub invariant-loop-entry : goal.invariant-loop-entry
invariant-loop-entry l = l.ids.items ≡ take l.entry-index (map (λ n. n.action.id) (seen l.entries))
