-- The places are in order.
use Rattle.std.proofs.Common.{false, refl, lt-ltb}
use Rattle.std.proofs.lemmas.Bool.{ltb-true}
use Rattle.orders.proofs.Said.{not_true}
use Rattle.orders.proofs.Ordered.{so_ids, so_not}
use Rattle.orders.proofs.answers.Orders.stands_synced.Goals as goal

pub returns-in-Some : goal.returns-in-Some
returns-in-Some c =
    let iff = so_ids c.args.self.now c.args.first c.args.second c.in-Some.r c.in-Some.s c.requires c.in-Some.ensures.found in
    (λ yes. iff.0 (ltb-true c.in-Some.r c.in-Some.s yes), λ h. lt-ltb c.in-Some.r c.in-Some.s (iff.1 h))

pub returns-in-None : goal.returns-in-None
returns-in-None c = (λ never. absurd (not_true false refl never), λ h. absurd (so_not c.args.self.now c.args.first c.args.second c.in-None.ensures.none h))
