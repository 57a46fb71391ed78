-- The names are those of synchronization actions.
use Rattle.std.proofs.Common.{false, refl}
use Rattle.orders.proofs.Said.{not_true}
use Rattle.orders.proofs.Meeting.{Sw, sw_at, sw_not, at_ids}
use Rattle.orders.proofs.answers.Orders.sw.Goals as goal

pub returns-in-Some : goal.returns-in-Some
returns-in-Some c =
    let iff = sw_at c.args.self.now c.in-Id-Id.first c.in-Id-Id.second c.in-Some.r c.in-Some.s c.requires c.in-Some.ensures.found in
    at_ids c.args.self.now c.args.a.now c.args.b.now c.in-Id-Id.first c.in-Id-Id.second (Sw c.args.self.now) c.meets.result c.in-Id-Id.is-0 c.in-Id-Id.is-1
    (λ yes. iff.0 (c.meets.ensures.0 yes), λ h. c.meets.ensures.1 (iff.1 h))

pub returns-in-None : goal.returns-in-None
returns-in-None c =
    at_ids c.args.self.now c.args.a.now c.args.b.now c.in-Id-Id.first c.in-Id-Id.second (Sw c.args.self.now) false c.in-Id-Id.is-0 c.in-Id-Id.is-1
    (λ never. absurd (not_true false refl never), λ h. absurd (sw_not c.args.self.now c.in-Id-Id.first c.in-Id-Id.second c.requires c.in-None.ensures.none h))
