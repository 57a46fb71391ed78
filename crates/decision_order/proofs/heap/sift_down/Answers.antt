use Rattle.std.proofs.Common.{arith}
use Rattle.std.proofs.lemmas.List.Sorted.{IsPermutation-trans, length_permutation}
use Rattle.decision_order.proofs.heap.sift_down.Goals as goal

pub loop-child-preserved : goal.loop-child-preserved
loop-child-preserved c = record {
  placed = c.swap.ensures.placed;
  within = omega (arith, length_permutation c.loop-child.heap c.swap.new.heap c.swap.ensures.permuted, c.loop-child.invariant.within, c.in-Some.ensures);
  permuted = IsPermutation-trans c.args.heap.now c.loop-child.heap c.swap.new.heap c.loop-child.invariant.permuted c.swap.ensures.permuted;
}
