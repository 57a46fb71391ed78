-- The edge is there, and nothing lies between.
use Rattle.std.proofs.Common.{◌∙◌, Bool, true, false, not, IsTrue, refl, ap, Some}
use Rattle.std.proofs.lemmas.Option.{slice_get_within}
use Rattle.orders.proofs.Said.{not_true, not_some, exec}
use Rattle.orders.proofs.Meeting.{synced_key, unsynced}
use Rattle.orders.proofs.Essential.{default_ssw, default_sync, ssw_sw}
use Rattle.orders.proofs.answers.Orders.default_essential.Goals as goal

not_both : (b : Bool) → IsTrue (not b) → IsTrue b → ⊥
not_both true e f = cc
not_both false e f = cc

to_not : (b : Bool) → (IsTrue b → ⊥) → IsTrue (not b)
to_not true never = absurd (never refl)
to_not false never = refl

pub returns-then-not-default_synchronizes : goal.returns-then-not-default_synchronizes
returns-then-not-default_synchronizes c = (
  λ never. absurd (not_true false refl never),
  λ h. absurd (not_true c.default_synchronizes.result c.if-not-default_synchronizes.true (c.default_synchronizes.ensures.1 (ssw_sw c.args.self.now _ _ h))),
)

pub default_between-requires-clause-last : goal.default_between-requires-clause-last
default_between-requires-clause-last c = slice_get_within (exec c.args.self.now).so c.in-Some.s c.args.second (synced_key c.args.self.now c.in-Some.s c.args.second c.requires c.in-Some.ensures.found)

pub returns-in-Some : goal.returns-in-Some
returns-in-Some c =
    let iff = default_ssw c.args.self.now c.args.class.now c.args.name.now c.args.second c.in-Some.s c.requires (c.default_synchronizes.ensures.0 c.if-not-default_synchronizes.false) (synced_key c.args.self.now c.in-Some.s c.args.second c.requires c.in-Some.ensures.found) in (
      λ yes. iff.0 (λ between. not_both c.default_between.result yes (c.default_between.ensures.1 between)),
      λ h. to_not c.default_between.result (λ between. iff.1 h (c.default_between.ensures.0 between)),
    )

pub returns-in-None : goal.returns-in-None
returns-in-None c =
    let (s, j, b, is, named, sw, there) = default_sync c.args.self.now c.args.class.now c.args.name.now c.args.second c.requires (c.default_synchronizes.ensures.0 c.if-not-default_synchronizes.false) in
    absurd (unsynced c.args.self.now s c.args.second c.requires (λ there'. not_some c.number_of.result c.in-None.is (c.number_of.ensures.there.1 there')) (is.listed ∙ ap Some named))
