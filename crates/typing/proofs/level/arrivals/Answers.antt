use Rattle.std.proofs.Common.{◌≡◌, ◌∙◌, ℕ, inl, inr, sym, subst, get_or, arith}
use Rattle.std.proofs.lemmas.List.{get_or_default}
use Rattle.std.proofs.lemmas.List.Elements.{Contains-get_or}
use Rattle.typing.specs.Levels.{HasArrival, StepsTo}
use Rattle.typing.proofs.Arrivals.{at_or_before, kept_has}
use Rattle.typing.proofs.level.arrivals.Goals as goal

pub leave-requires-clause-advancing : goal.leave-requires-clause-advancing
leave-requires-clause-advancing c = c.requires.advancing _ (Contains-get_or c.args.changed.now c.loop-from.from-index 0 (omega arith))

pub loop-from-preserved : goal.loop-from-preserved
loop-from-preserved c =
    let xs = c.args.changed.now in
    let H : ℕ → Type 0 = λ k. (to : ℕ) → StepsTo c.args.method.now.listing (get_or xs k 0) to → HasArrival c.leave.new.arrivals.items (get_or xs k 0) to in
    record {
      sound = c.in_ok-leave.ensures.sound c.loop-from.invariant.sound;
      whole = λ k to below steps. elim (at_or_before k c.loop-from.from-index below) [
        | inl same ↦ subst H (sym same) c.in_ok-leave.ensures.whole to steps
        | inr before ↦ kept_has _ _ _ _ c.in_ok-leave.ensures.kept (c.loop-from.invariant.whole k to before steps)
      ];
    }

pub returns-clause-whole : goal.returns-clause-whole
returns-clause-whole c = λ p to has steps.
    let xs = c.args.changed.now in
    let is : get_or xs has.0 0 ≡ p = get_or_default xs has.0 0 p has.1 ∙ has.2 in
    let P : ℕ → Type 0 = λ n. StepsTo c.args.method.now.listing n to → HasArrival c.loop-from.arrivals.items n to in
    subst P is (λ s. c.loop-from.invariant.whole has.0 to (omega (arith, has.1)) s) steps
