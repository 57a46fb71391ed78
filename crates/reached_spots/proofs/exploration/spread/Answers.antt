-- Step by step.
use Rattle.std.proofs.Common.{◌+◌, ◌≡◌}
use Rattle.reached_spots.specs.Exploring.{LeadsAmong}
use Rattle.reached_spots.proofs.Meeting.{among_all, met_then, one_more, too_many_then}
use Rattle.reached_spots.proofs.exploration.spread.Goals as goal

pub returns-in-Err-clause-many : goal.returns-in-Err-clause-many
returns-in-Err-clause-many c = λ e.
    too_many_then c.args.exploration.now c.loop-step.exploration c.meet.new.exploration _ (λ s. s ≡ c.step-item.result.to) (LeadsAmong c.args.steps.now) c.loop-step.invariant.0 (c.in-Err.ensures.many e)
    (λ s u. among_all c.args.steps.now (c.loop-step.step-index + 1) s ((one_more c.args.steps.now c.loop-step.step-index c.step-item.result c.loop-step-test.true c.step-item.is s).1 u))

pub loop-step-preserved : goal.loop-step-preserved
loop-step-preserved c = (
  met_then c.args.exploration.now c.loop-step.exploration c.meet.new.exploration _ (λ s. s ≡ c.step-item.result.to) _ c.loop-step.invariant.0 c.in_default.ensures.met
      (one_more c.args.steps.now c.loop-step.step-index c.step-item.result c.loop-step-test.true c.step-item.is),
  c.in_default.ensures.few,
)
