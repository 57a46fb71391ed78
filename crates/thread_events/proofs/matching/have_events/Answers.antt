-- Place by place.
use Rattle.std.proofs.Common.{◌<◌, Some, arith, refl, ap, sym, ◌∙◌, length}
use Rattle.std.proofs.lemmas.Bool.{false≢true}
use Rattle.std.proofs.lemmas.Option.{slice_get-get_or, slice_get_within}
use Rattle.program.specs.declared.event.Event.TheVariants.{First}
use Rattle.thread_events.proofs.Matched.{before_more, have_all, have_at, have_length}
use Rattle.thread_events.proofs.matching.have_events.Goals as goal

pub returns-then-part-events : goal.returns-then-part-events
returns-then-part-events c = (
  λ never. absurd (false≢true never),
  λ have. absurd (c.if-part-events.true (have_length c.args.orders.now.flat.program.now c.args.orders.now.flat.execution.now c.args.part.now c.args.events.now have)),
)

pub returns-then-not-has_event : goal.returns-then-not-has_event
returns-then-not-has_event c =
    let within : c.loop-at.at < length c.args.events.now = omega arith in (
      λ never. absurd (false≢true never),
      λ have. absurd (false≢true (sym c.if-not-has_event.true ∙ c.has_event.ensures.1
          (have_at c.args.orders.now.flat.program.now c.args.orders.now.flat.execution.now c.args.part.now c.args.events.now c.loop-at.at _ _ have
          (slice_get-get_or c.args.part.now c.loop-at.at c.index-part-at.result c.loop-at-test.true ∙ ap Some (sym c.index-part-at.is))
          (slice_get-get_or c.args.events.now c.loop-at.at First within)))),
    )

pub loop-at-preserved : goal.loop-at-preserved
loop-at-preserved c =
    let within : c.loop-at.at < length c.args.events.now = omega arith in
    before_more c.args.orders.now.flat.program.now c.args.orders.now.flat.execution.now c.args.part.now c.args.events.now c.loop-at.at _ _
    (slice_get-get_or c.args.part.now c.loop-at.at c.index-part-at.result c.loop-at-test.true ∙ ap Some (sym c.index-part-at.is))
    (slice_get-get_or c.args.events.now c.loop-at.at First within)
    (c.has_event.ensures.0 c.if-not-has_event.false) c.loop-at.invariant

pub returns : goal.returns
returns c = (
  λ h. have_all c.args.orders.now.flat.program.now c.args.orders.now.flat.execution.now c.args.part.now c.args.events.now c.if-part-events.false
      (λ i n v at_n at_v. c.loop-at.invariant i n v (let inside = slice_get_within c.args.part.now i n at_n in omega arith) at_n at_v),
  λ h. refl,
)
