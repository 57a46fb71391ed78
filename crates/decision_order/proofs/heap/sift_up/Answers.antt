use Rattle.std.proofs.Common.{arith}
use Rattle.std.proofs.lemmas.List.Sorted.{IsPermutation-trans, length_permutation}
use Rattle.decision_order.proofs.heap.sift_up.Goals as goal

pub loop-at-preserved : goal.loop-at-preserved
loop-at-preserved c = record {
  placed = c.swap.ensures.placed;
  within = omega (arith, length_permutation c.loop-at.heap c.swap.new.heap c.swap.ensures.permuted, c.loop-at.invariant.within, c.loop-at-test.true);
  permuted = IsPermutation-trans c.args.heap.now c.loop-at.heap c.swap.new.heap c.loop-at.invariant.permuted c.swap.ensures.permuted;
}
