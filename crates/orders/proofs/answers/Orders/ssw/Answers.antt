-- The names are those of synchronization actions.
use Rattle.std.proofs.Common.{false, refl}
use Rattle.orders.proofs.Said.{not_true}
use Rattle.orders.proofs.Meeting.{sw_not, at_ids, synced_within}
use Rattle.orders.proofs.Essential.{Ssw, ssw_at, ssw_sw}
use Rattle.orders.proofs.answers.Orders.ssw.Goals as goal

pub returns-in-Some : goal.returns-in-Some
returns-in-Some c =
    let iff = ssw_at c.args.self.now c.in-Id-Id.first c.in-Id-Id.second c.in-Some.r c.in-Some.s c.requires c.in-Some.ensures.found (synced_within c.args.self.now c.in-Some.s c.in-Id-Id.second c.requires c.in-Some.ensures.found.second) in
    at_ids c.args.self.now c.args.a.now c.args.b.now c.in-Id-Id.first c.in-Id-Id.second (Ssw c.args.self.now) c.is_essential.result c.in-Id-Id.is-0 c.in-Id-Id.is-1
    (λ yes. iff.0 (c.is_essential.ensures.0 yes), λ h. c.is_essential.ensures.1 (iff.1 h))

pub returns-in-None : goal.returns-in-None
returns-in-None c =
    at_ids c.args.self.now c.args.a.now c.args.b.now c.in-Id-Id.first c.in-Id-Id.second (Ssw c.args.self.now) false c.in-Id-Id.is-0 c.in-Id-Id.is-1
    (λ never. absurd (not_true false refl never), λ h. absurd (sw_not c.args.self.now c.in-Id-Id.first c.in-Id-Id.second c.requires c.in-None.ensures.none (ssw_sw c.args.self.now _ _ h)))
