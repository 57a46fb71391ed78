-- What was added, and what the rest adds.
use Rattle.std.proofs.Common.{◌≡◌, ◌++◌, drop}
use Rattle.node_details.specs.Slots.{local_slots}
use Rattle.node_details.proofs.slots.add_locals.Given as goal

abbrev pub invariant-loop-local : goal.invariant-loop-local
invariant-loop-local l = l.slots.items ++ local_slots l.fn.base (drop l.local-index l.locals) ≡ l.fn.slots.items ++ local_slots l.fn.base l.locals
