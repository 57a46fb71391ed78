-- Each set against the one before it.
use Rattle.std.proofs.Common.{◌≡◌, ◌<◌, ℕ, true, false, List, Some, ◌∙◌, sym, ap, subst, length, get_or, slice_get, inl, inr, arith}
use Rattle.std.proofs.lemmas.Bool.{cases_eq}
use Rattle.std.proofs.lemmas.Option.{slice_get-get_or}
use Rattle.program.proofs.Lists.{there_is}
use Rattle.action_orders.specs.Causality.{IsProperSubset}
use Rattle.action_orders.specs.declared.action.ActionRef.{ActionRef}
use Rattle.action_orders.specs.declared.sequence.SequenceStep.{SequenceStep}
use Rattle.member_sets.specs.Growth.{GrowsAt, set_before, set_of}
use Rattle.member_sets.proofs.chain.first_without_growth.Goals as goal

moves : (b a x y : List ActionRef) → b ≡ x → a ≡ y → IsProperSubset b a → IsProperSubset x y
moves b a x y one other proper = subst (λ (z : List ActionRef). IsProperSubset z y) one (subst (IsProperSubset b) other proper)

-- the set at a place, as the code reads it
read_set : (steps sequence : List SequenceStep) (place : ℕ) (d : SequenceStep) (set : List ActionRef) → steps ≡ sequence → place < length steps → set ≡ (get_or steps place d).set → set ≡ set_of (slice_get sequence place)
read_set steps sequence place d set same within is = is ∙ sym (ap set_of (slice_get-get_or steps place d within)) ∙ ap (λ (s : List SequenceStep). set_of (slice_get s place)) same

pub loop-place-init : goal.loop-place-init
loop-place-init c = λ place below. absurd (omega (arith, below))

pub returns-then-not-grows-clause-found : goal.returns-then-not-grows-clause-found
returns-then-not-grows-clause-found c = record {
  step = step.0;
  there = step.1;
  stands_still = λ proper. absurd (let is = c.grows.ensures.1 (moves _ _ _ _ (sym first) (sym second) proper) in let never : true ≡ false = sym is ∙ c.if-not-grows.true in cc);
  earlier = c.loop-place.invariant;
}
  where
    step : (s : SequenceStep) × (slice_get c.args.sequence.now c.loop-place.place ≡ Some s)
    step = there_is c.args.sequence.now c.loop-place.place (let same = ap length c.steps-steps.ensures.value in let within = c.loop-place-test.true in omega (arith, same, within))

    first : c.set_before.result.now ≡ set_before c.args.sequence.now c.loop-place.place
    first = c.set_before.ensures ∙ ap (λ (s : List SequenceStep). set_before s c.loop-place.place) c.steps-steps.ensures.value

    second : c.as_slice.result.now ≡ set_of (slice_get c.args.sequence.now c.loop-place.place)
    second = read_set c.steps-steps.result.now c.args.sequence.now c.loop-place.place c.index-steps-place.result c.as_slice.result.now c.steps-steps.ensures.value c.loop-place-test.true c.as_slice.ensures

pub loop-place-preserved : goal.loop-place-preserved
loop-place-preserved c = λ place below. elim (cases_eq place c.loop-place.place) [
  | inl last ↦ subst (GrowsAt c.args.sequence.now) (sym last) (moves _ _ _ _ first second (c.grows.ensures.0 c.if-not-grows.false))
  | inr other ↦ c.loop-place.invariant place (omega (arith, below, other))
]
  where
    first : c.set_before.result.now ≡ set_before c.args.sequence.now c.loop-place.place
    first = c.set_before.ensures ∙ ap (λ (s : List SequenceStep). set_before s c.loop-place.place) c.steps-steps.ensures.value

    second : c.as_slice.result.now ≡ set_of (slice_get c.args.sequence.now c.loop-place.place)
    second = read_set c.steps-steps.result.now c.args.sequence.now c.loop-place.place c.index-steps-place.result c.as_slice.result.now c.steps-steps.ensures.value c.loop-place-test.true c.as_slice.ensures

pub returns-clause-none : goal.returns-clause-none
returns-clause-none c = λ place below. c.loop-place.invariant place (let n = ap length c.steps-steps.ensures.value in let end = c.loop-place-test.false in omega (arith, below, n, end))
