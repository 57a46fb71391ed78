-- None so far.
use Rattle.std.proofs.Common.{◌<◌, ◌≤◌, ℕ}
use Rattle.orders.specs.Volatiles.{IsVolatileAt}
use Rattle.orders.proofs.volatiles.is_volatile_from.Given as goal

abbrev pub invariant-loop-at : goal.invariant-loop-at
invariant-loop-at l = (k : ℕ) → l.from ≤ k → k < l.at → IsVolatileAt l.variables k (record { class = l.class; name = l.name }) → ⊥
