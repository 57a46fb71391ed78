-- Too many spots.
use Rattle.std.proofs.Common.{◌<◌, subst}
use Rattle.std.specs.List.Sorted.{IsStrictlySortedBy}
use Rattle.std.specs.declared.cmp.Ordering.{Ordering}
use Rattle.spots.proofs.Same.{one_order}
use Rattle.spots.specs.declared.spot.Spot.{Spot}
use Rattle.reached_spots.proofs.exploration.meet.Goals as goal

pub returns-then-len-gt-CODE_NODES-clause-many : goal.returns-then-len-gt-CODE_NODES-clause-many
returns-then-len-gt-CODE_NODES-clause-many c = λ e. record {
  seen = λ s. (c.in_ok-add.ensures.seen s).0;
  many = subst (λ n. 1024 < n) c.len.ensures.len c.if-len-gt-CODE_NODES.true;
  ordered = subst (λ (R : Spot → Spot → Ordering). IsStrictlySortedBy R c.add.new.exploration.seen.keys) one_order c.len.ensures.ordered;
}
