-- The sums so far: raised by calls, and more where one was less.
use Rattle.std.proofs.Common.{◌≡◌, ◌<◌, ◌≤◌, List, ℕ, All, true, false, length, take}
use Rattle.untyped_program.specs.Edges.{AreRaised, AreSteady, total}
use Rattle.untyped_program.proofs.call_graph.raise_all.Given as goal

abbrev pub invariant-loop-edge : goal.invariant-loop-edge
invariant-loop-edge l = record {
  size : length l.sums ≡ length l.initial.sums;
  small : All (λ n. n ≤ 17) l.sums;
  raised : (from : List ℕ) → AreRaised l.slots l.edges from l.initial.sums → AreRaised l.slots l.edges from l.sums;
  steady : l.changed ≡ false → AreSteady l.slots (take l.edge-index l.edges) l.initial.sums × (l.sums ≡ l.initial.sums);
  grown : total l.initial.sums ≤ total l.sums;
  more : l.changed ≡ true → total l.initial.sums < total l.sums;
}
