-- Into a set.
use Rattle.std.proofs.Common.{◌≡◌, not, subst, true}
use Rattle.std.specs.BTreeSet.{Updates, contains}
use Rattle.std.specs.declared.cmp.Ordering.{Ordering}
use Rattle.spots.proofs.Same.{one_order}
use Rattle.spots.specs.declared.spot.Spot.{Spot}
use Rattle.reached_spots.proofs.Meeting.{inserted}
use Rattle.reached_spots.proofs.exploration.insert.Goals as goal

pub returns : goal.returns
returns c =
    inserted c.args.seen.now c.insert.new.self c.args.spot c.in-Ok.added
    (subst (λ (R : Spot → Spot → Ordering). c.in-Ok.added ≡ not (contains R c.args.seen.now c.args.spot)) one_order c.in-Ok.ensures.added)
    (subst (λ (R : Spot → Spot → Ordering). Updates R c.args.seen.now c.insert.new.self c.args.spot true) one_order c.in-Ok.ensures.updates)
    c.in-Ok.ensures.len
