-- Step by step.
use Rattle.std.proofs.Common.{◌≡◌, ◌⊎◌, inl, inr, ℕ, Contains, List, Some, length, slice_get, take, true, refl, sym, ap, subst, ◌∙◌, true≢false}
use native.Mathlib.Omega.{arith}
use Rattle.std.proofs.Math.Seq.{take-length}
use Rattle.program.proofs.Lists.{contains_at}
use Rattle.std.proofs.lemmas.Option.{slice_get_read}
use Rattle.spots.specs.declared.leads.Lead.{Lead}
use Rattle.kept_spots.specs.Ending.{SomeMarked}
use Rattle.spots.proofs.FirstItems.{among_first}
use Rattle.kept_spots.proofs.Marks.{marked_there, unmarked_there}
use Rattle.kept_spots.proofs.ending.leads_to_marked.Goals as goal

pub returns-then-is_marked : goal.returns-then-is_marked
returns-then-is_marked c = (
  (λ yes. (let there = marked_there c.args.spots.now c.args.marks.now c.step-item.result.to c.place_of.result c.place_of.ensures.some (c.is_marked.ensures.0 c.if-is_marked.true) in
      record {
        to = c.step-item.result.to;
        place = there.0;
        step = (
          c.step-item.result.taken,
          (c.in_ok-leads.ensures.steps c.step-item.result).0 (subst (λ (xs : List Lead). Contains xs c.step-item.result) c.as_slice-step-items.ensures
              (contains_at c.as_slice-step-items.result.now c.loop-step.step-index c.step-item.result (slice_get_read c.as_slice-step-items.result.now _ c.loop-step.step-index c.step-item.result refl c.loop-step-test.true c.step-item.is))),
        );
        stands = there.1;
        marked = there.2;
      })),
  (λ some. refl),
)

pub loop-step-preserved : goal.loop-step-preserved
loop-step-preserved c = λ lead n there at mark.
    by lead n at mark ((among_first c.as_slice-step-items.result.now c.loop-step.step-index c.step-item.result lead c.loop-step-test.true c.step-item.is).0 there)
  where
    by : (lead : Lead) (n : ℕ) → slice_get c.args.spots.now n ≡ Some lead.to → slice_get c.args.marks.now n ≡ Some true → Contains (take c.loop-step.step-index c.as_slice-step-items.result.now) lead ⊎ (lead ≡ c.step-item.result) → ⊥
    by lead n at mark (inl before) = c.loop-step.invariant lead n before at mark
    by lead n at mark (inr e) =
        unmarked_there c.args.spots.now c.args.marks.now c.step-item.result.to c.requires.ordered c.place_of.result c.place_of.ensures.some c.place_of.ensures.none
        (λ marked. true≢false (sym (c.is_marked.ensures.1 marked) ∙ c.if-is_marked.false)) n (at ∙ ap (λ (l : Lead). Some l.to) e) mark

pub returns : goal.returns
returns c = (
  (λ no. absurd (true≢false (sym no))),
  (λ some. absurd (none some)),
)
  where
    last : c.loop-step.step-index ≡ length c.as_slice-step-items.result.now
    last = (let most = c.loop-step.auto.step-index-end in let least = c.loop-step-test.false in omega arith)

    none : SomeMarked c.args.program.now c.args.limit c.args.spots.now c.args.marks.now c.args.spot.now → ⊥
    none some =
        let step : Lead = record { taken = some.step.0; to = some.to } in
        let there = (c.in_ok-leads.ensures.steps step).1 some.step.1 in
        c.loop-step.invariant step some.place
        (subst (λ (xs : List Lead). Contains xs step) (sym (ap (λ n. take n c.as_slice-step-items.result.now) last ∙ take-length c.as_slice-step-items.result.now ∙ c.as_slice-step-items.ensures)) there)
        some.stands some.marked
