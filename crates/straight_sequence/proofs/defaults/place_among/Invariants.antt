-- All members up to the index stand before the one that is placed.
use Rattle.std.proofs.Common.{◌<◌, ℕ, get_or}
use Rattle.action_orders.specs.declared.action.ActionRef.{ActionRef}
use Rattle.action_orders.specs.Sequence.{IsBelow}
use Rattle.straight_sequence.proofs.defaults.place_among.Given as goal

abbrev pub invariant-loop-i : goal.invariant-loop-i
invariant-loop-i l = (k : ℕ) (d : ActionRef) → k < l.i → IsBelow (get_or l.members k d) l.member
