use Rattle.std.proofs.Common.{◌≡◌, ◌+◌, ◌-◌, ◌<◌, ◌*◌, ◌∷◌, length, drop, sym, ◌∙◌, ap, subst, arith}
use Rattle.clause_pool.specs.PoolValue.{IsIn}
use Rattle.trail.specs.Steps.{TrailValue}
use Rattle.trail.proofs.Soundness.{few_levels}
use Rattle.search_steps.specs.States.{IsState}
use Rattle.search_steps.proofs.Returning.{newest_step, state_back}
use Rattle.search_steps.proofs.back.take_back.Goals as goal

pub step-step-requires : goal.step-step-requires
step-step-requires c = omega (arith, few_levels c.args.state.now.trail.steps, c.requires.decided, c.len.ensures)

pub put_back-requires : goal.put_back-requires
put_back-requires c =
    let t = c.args.state.now.trail in
    let some : c.len.result - 1 + 1 ≡ length t.steps = omega (arith, few_levels t.steps, c.requires.decided, c.len.ensures) in
    let e = newest_step t.steps (c.len.result - 1) c.step-step.result c.step-step.ensures some in
    let below : c.step-step.result.literal < 2 * t.variables = (subst (Rattle.trail.specs.Steps.IsSoundFor t.variables) e c.requires.state.fit.trail_sound.steps).0 in
    subst (λ n. c.variable.result < n) (sym c.requires.state.variables) (c.variable.ensures.below t.variables below)

pub returns-clause-newest : goal.returns-clause-newest
returns-clause-newest c =
    let t = c.args.state.now.trail in
    let some : c.len.result - 1 + 1 ≡ length t.steps = omega (arith, few_levels t.steps, c.requires.decided, c.len.ensures) in
    newest_step t.steps (c.len.result - 1) c.step-step.result c.step-step.ensures some ∙ ap (λ (v : TrailValue). c.step-step.result ∷ v.steps) (sym c.take_back.ensures)

pub returns-clause-state : goal.returns-clause-state
returns-clause-state c =
    let t = c.args.state.now.trail in
    let some : c.len.result - 1 + 1 ≡ length t.steps = omega (arith, few_levels t.steps, c.requires.decided, c.len.ensures) in
    let e = newest_step t.steps (c.len.result - 1) c.step-step.result c.step-step.ensures some in
    subst (λ (v : TrailValue). IsState (record { pool = c.args.state.now.pool; trail = v; order = c.put_back.new.self })) (sym c.take_back.ensures)
    (state_back c.args.state.now c.step-step.result (drop 1 t.steps) c.put_back.new.self e c.requires.decided c.requires.state c.put_back.ensures.variables (subst (λ v. IsIn v c.put_back.new.self.waiting) c.variable.ensures.variable c.put_back.ensures.waits) c.put_back.ensures.others)
