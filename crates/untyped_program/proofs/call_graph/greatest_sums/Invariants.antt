-- The sums so far, and how far they can rise.
use Rattle.std.proofs.Common.{◌≡◌, ◌≤◌, ◌+◌, ◌-◌, ◌*◌, All, cond, false, length}
use Rattle.untyped_program.specs.Edges.{AreRaised, AreSteady, total}
use Rattle.untyped_program.proofs.call_graph.greatest_sums.Given as goal

abbrev pub invariant-loop-changed : goal.invariant-loop-changed
invariant-loop-changed l = record {
  size : length l.sums.items ≡ length l.slots;
  small : All (λ n. n ≤ 17) l.sums.items;
  raised : AreRaised l.slots l.edges l.slots l.sums.items;
  steady : l.changed ≡ false → AreSteady l.slots l.edges l.sums.items;
}

abbrev pub decreases-loop-changed : goal.decreases-loop-changed
decreases-loop-changed l = (17 * length l.slots - total l.sums.items) + cond l.changed 1 0
