-- The variable is the program's, and the identifier an action's.
use Rattle.std.proofs.Common.{false, refl, sym, subst}
use Rattle.std.specs.Option.{is_some}
use Rattle.orders.specs.Synced.{IsTargetOf}
use Rattle.orders.proofs.Said.{not_true, not_some, default_there, second_there, relates_default, id_within, placed_id, find_there, var}
use Rattle.orders.proofs.Meeting.{Sw, target_of}
use Rattle.orders.proofs.answers.Orders.default_synchronizes.Goals as goal

pub returns-then-is_none : goal.returns-then-is_none
returns-then-is_none c =
    let iff = (find_there c.args.self.now c.find.result c.as_slice.result.now c.as_slice-2.result.now c.args.class.now c.args.name.now c.requires c.as_slice.ensures.value c.as_slice-2.ensures.value c.find.ensures.there) in (
      λ never. absurd (not_true false refl never),
      λ h. absurd (not_true (is_some c.find.result) c.if-is_none.ensures (iff.1 (default_there c.args.self.now c.args.class.now c.args.name.now _ _ h))),
    )

pub action-requires-clause-inside : goal.action-requires-clause-inside
action-requires-clause-inside c = id_within c.args.self.now c.in-Some.j c.args.second c.requires c.in-Some.ensures.found

pub returns-in-Some : goal.returns-in-Some
returns-in-Some c =
    let iff = (find_there c.args.self.now c.find.result c.as_slice.result.now c.as_slice-2.result.now c.args.class.now c.args.name.now c.requires c.as_slice.ensures.value c.as_slice-2.ensures.value c.find.ensures.there) in
    let there = iff.0 c.if-is_none.ensures in
    let to = relates_default c.args.self.now c.args.class.now c.args.name.now c.args.second c.in-Some.j (Sw c.args.self.now) c.requires there c.in-Some.ensures.found in
    let target = target_of c.args.self.now (var c.args.class.now c.args.name.now) c.in-Some.j _ c.requires there (placed_id c.args.self.now c.in-Some.j c.args.second c.requires c.in-Some.ensures.found).0 in (
      λ yes. to.1 (target.0 (subst (IsTargetOf (var c.args.class.now c.args.name.now)) c.action.ensures.same (c.is_target.ensures.0 yes))),
      λ h. c.is_target.ensures.1 (subst (IsTargetOf (var c.args.class.now c.args.name.now)) (sym c.action.ensures.same) (target.1 (to.0 h))),
    )

pub returns-in-None : goal.returns-in-None
returns-in-None c = (
  λ never. absurd (not_true false refl never),
  λ h. absurd (second_there c.args.self.now _ c.args.second _ c.requires (λ there. not_some c.number_of.result c.in-None.is (c.number_of.ensures.there.1 there)) h),
)
