-- None so far has the other behind it.
use Rattle.std.proofs.Common.{◌<◌, ◌+◌, ℕ}
use Rattle.orders.specs.Volatiles.{IsVolatileAt, IsVolatileFrom}
use Rattle.orders.proofs.volatiles.stands_before.Given as goal

abbrev pub invariant-loop-at : goal.invariant-loop-at
invariant-loop-at l = (k : ℕ) → k < l.at → IsVolatileAt l.variables k (record { class = l.class; name = l.name }) → IsVolatileFrom l.variables (k + 1) (record { class = l.later_class; name = l.later_name }) → ⊥
