-- What was added, and what the rest adds.
use Rattle.std.proofs.Common.{◌≡◌, ◌++◌, drop}
use Rattle.node_details.specs.Slots.{stack_slots}
use Rattle.node_details.proofs.slots.add_stack.Given as goal

abbrev pub invariant-loop-holds : goal.invariant-loop-holds
invariant-loop-holds l = l.slots.items ++ stack_slots l.slot (drop l.holds-index l.types) ≡ l.fn.slots.items ++ stack_slots l.fn.base l.types
