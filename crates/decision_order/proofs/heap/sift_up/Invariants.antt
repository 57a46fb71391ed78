use Rattle.std.proofs.Common.{◌<◌, length}
use Rattle.std.specs.List.Sorted.{IsPermutation}
use Rattle.decision_order.specs.Waiting.{IsPlaced}
use Rattle.decision_order.proofs.heap.sift_up.Given as goal

abbrev pub invariant-loop-at : goal.invariant-loop-at
invariant-loop-at l = record {
  placed : IsPlaced l.heap l.places;
  within : l.at < length l.heap;
  permuted : IsPermutation l.initial.heap l.heap;
}

abbrev pub decreases-loop-at : goal.decreases-loop-at
decreases-loop-at l = l.at
