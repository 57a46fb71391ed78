use Rattle.std.proofs.Common.{◌≡◌, sym, ◌∙◌, ap, arith}
use Rattle.trail.specs.Steps.{TrailValue, back_to}
use Rattle.trail.proofs.Back.{back_to-here, back_in-step}
use Rattle.search_steps.proofs.back.unwind.Goals as goal

pub loop-state-preserved : goal.loop-state-preserved
loop-state-preserved c = record {
  state = c.take_back-step.ensures.state;
  back = (back_in-step c.args.level c.loop-state.state.trail c.take_back-step.new.state.trail c.take_back-step.ensures.trail (omega (arith, c.level.ensures, c.loop-state-test.true))).0 ∙ c.loop-state.invariant.back;
  pool = c.take_back-step.ensures.pool ∙ c.loop-state.invariant.pool;
}

pub loop-state-smaller : goal.loop-state-smaller
loop-state-smaller c = (back_in-step c.args.level c.loop-state.state.trail c.take_back-step.new.state.trail c.take_back-step.ensures.trail (omega (arith, c.level.ensures, c.loop-state-test.true))).1

pub returns-clause-trail : goal.returns-clause-trail
returns-clause-trail c =
    let here : back_to c.args.level c.loop-state.state.trail.steps ≡ c.loop-state.state.trail.steps = back_to-here c.args.level c.loop-state.state.trail.steps (omega (arith, c.level.ensures, c.loop-state-test.false)) in
    ap (λ ys. let v : TrailValue = record { steps = ys; variables = c.loop-state.state.trail.variables } in v) (sym here) ∙ c.loop-state.invariant.back
