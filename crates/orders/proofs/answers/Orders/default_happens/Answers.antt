-- The variable is the program's, and the identifier an action's.
use Rattle.std.proofs.Common.{false, refl}
use Rattle.orders.proofs.Said.{not_true, not_some, default_there, second_there, relates_default, id_within, find_there, prog, exec}
use Rattle.std.specs.Option.{is_some}
use Rattle.action_orders.specs.HappensBefore.{HappensBefore}
use Rattle.orders.proofs.answers.Orders.default_happens.Goals as goal

pub returns-then-is_none : goal.returns-then-is_none
returns-then-is_none c =
    let iff = (find_there c.args.self.now c.find.result c.as_slice.result.now c.as_slice-2.result.now c.args.class.now c.args.name.now c.requires c.as_slice.ensures.value c.as_slice-2.ensures.value c.find.ensures.there) in (
      λ never. absurd (not_true false refl never),
      λ h. absurd (not_true (is_some c.find.result) c.if-is_none.ensures (iff.1 (default_there c.args.self.now c.args.class.now c.args.name.now _ _ h))),
    )

pub default_before-requires-clause-second : goal.default_before-requires-clause-second
default_before-requires-clause-second c = id_within c.args.self.now c.in-Some.j c.args.second c.requires c.in-Some.ensures.found

pub default_before-requires-clause-variable : goal.default_before-requires-clause-variable
default_before-requires-clause-variable c = let iff = (find_there c.args.self.now c.find.result c.as_slice.result.now c.as_slice-2.result.now c.args.class.now c.args.name.now c.requires c.as_slice.ensures.value c.as_slice-2.ensures.value c.find.ensures.there) in iff.0 c.if-is_none.ensures

pub returns-in-Some : goal.returns-in-Some
returns-in-Some c =
    let iff = (find_there c.args.self.now c.find.result c.as_slice.result.now c.as_slice-2.result.now c.args.class.now c.args.name.now c.requires c.as_slice.ensures.value c.as_slice-2.ensures.value c.find.ensures.there) in
    let to = relates_default c.args.self.now c.args.class.now c.args.name.now c.args.second c.in-Some.j (HappensBefore (prog c.args.self.now) (exec c.args.self.now)) c.requires (iff.0 c.if-is_none.ensures) c.in-Some.ensures.found in
    (λ yes. to.1 (c.default_before.ensures.0 yes), λ h. c.default_before.ensures.1 (to.0 h))

pub returns-in-None : goal.returns-in-None
returns-in-None c = (
  λ never. absurd (not_true false refl never),
  λ h. absurd (second_there c.args.self.now _ c.args.second _ c.requires (λ there. not_some c.number_of.result c.in-None.is (c.number_of.ensures.there.1 there)) h),
)
