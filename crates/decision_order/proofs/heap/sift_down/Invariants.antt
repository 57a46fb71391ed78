use Rattle.std.proofs.Common.{◌≤◌, ◌-◌, length}
use Rattle.std.specs.List.Sorted.{IsPermutation}
use Rattle.decision_order.specs.Waiting.{IsPlaced}
use Rattle.decision_order.proofs.heap.sift_down.Given as goal

abbrev pub invariant-loop-child : goal.invariant-loop-child
invariant-loop-child l = record {
  placed : IsPlaced l.heap l.places;
  within : l.at ≤ length l.heap;
  permuted : IsPermutation l.initial.heap l.heap;
}

abbrev pub decreases-loop-child : goal.decreases-loop-child
decreases-loop-child l = length l.heap - l.at
