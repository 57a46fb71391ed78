-- Where a spot stands.
use Rattle.std.proofs.Common.{◌≡◌, get_or, subst}
use Rattle.std.specs.List.Sorted.{IsNonDecreasingBy, IsPartitionPoint}
use Rattle.std.specs.Ordering.{ordering_index}
use Rattle.std.specs.declared.cmp.Ordering.{Ordering}
use Rattle.std.specs.declared.cmp.Ordering.TheVariants.{Less, Equal, Greater}
use Rattle.spots.proofs.Same.{one_order}
use Rattle.spots.specs.declared.spot.Spot.{Spot}
use Rattle.graph_shape.proofs.Order.{found, not_there}
use Rattle.graph_shape.proofs.edges.place_of.Goals as goal

pub returns-in_default-clause-none : goal.returns-in_default-clause-none
returns-in_default-clause-none c = λ there.
    not_there c.args.spots.now c.args.spot.now c.in_default.field-0
    (subst (λ (R : Spot → Spot → Ordering). IsNonDecreasingBy (λ y. ordering_index (R y c.args.spot.now)) c.args.spots.now →
    IsPartitionPoint (λ y. R y c.args.spot.now ≡ Less) (λ y. R y c.args.spot.now ≡ Greater) c.args.spots.now c.in_default.field-0) one_order c.in_default.ensures.position)
    c.requires.ordered there

pub returns-clause-some : goal.returns-clause-some
returns-clause-some c =
    found c.args.spots.now c.args.spot.now c.in-Ok.place c.in-Ok.ensures.bound
    (subst (λ (R : Spot → Spot → Ordering). (d : Spot) → R (get_or c.args.spots.now c.in-Ok.place d) c.args.spot.now ≡ Equal) one_order c.in-Ok.ensures.ok)
