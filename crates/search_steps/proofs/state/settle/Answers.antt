use Rattle.std.proofs.Common.{◌≡◌, ◌+◌, ◌<◌, ◌≤◌, ◌^◌, ◌∷◌, length, sym, ◌∙◌, ap, subst, arith}
use Rattle.std.proofs.lemmas.List.{length-map, length-append}
use Rattle.trail.specs.Steps.{TrailValue, literal_of, with_step}
use Rattle.propagation.proofs.Same.{IsSamePool-refl, IsSamePool-trans}
use Rattle.propagation.proofs.Start.{fit_decided}
use Rattle.trail.specs.declared.step.Reason.TheVariants.{Decision}
use Rattle.propagation.specs.Ready.{IsReady, IsSamePool}
use Rattle.search_steps.specs.States.{IsState, IsGrown}
use Rattle.search_steps.proofs.Values.{waiting_grown, waiting_decided}
use Rattle.search_steps.proofs.Keeping.{units_grown, IsGrown-refl, IsGrown-extended, IsGrown-decided, ready_with, sound_with, all_true}
use Rattle.search_steps.proofs.state.settle.Goals as goal

pub loop-conflict-init : goal.loop-conflict-init
loop-conflict-init c = record { state = c.requires.state; ready = c.requires.ready; same_pool = IsSamePool-refl c.args.state.now.pool; grown = IsGrown-refl c.args.state.now.trail }

pub returns-in-Some-clause-state : goal.returns-in-Some-clause-state
returns-in-Some-clause-state c =
    let s = c.loop-conflict.invariant.state in
    let e = c.propagate.ensures.extended in
    record {
      fit = c.propagate.ensures.fit;
      units = units_grown c.loop-conflict.state.pool c.propagate.new.pool c.loop-conflict.state.trail.steps c.propagate.new.trail.steps e.newer c.propagate.ensures.same_pool e.splits s.units;
      waiting = waiting_grown c.propagate.new.trail.steps e.newer c.loop-conflict.state.trail.steps c.loop-conflict.state.order e.splits s.waiting;
      variables = s.variables ∙ sym e.variables;
      few = subst (λ n. n < 2 ^ 31) (sym e.variables) s.few;
    }

pub returns-in-Some-clause-same_pool : goal.returns-in-Some-clause-same_pool
returns-in-Some-clause-same_pool c = IsSamePool-trans c.args.state.now.pool c.loop-conflict.state.pool c.propagate.new.pool c.loop-conflict.invariant.same_pool c.propagate.ensures.same_pool

pub returns-in-Some-clause-grown : goal.returns-in-Some-clause-grown
returns-in-Some-clause-grown c = IsGrown-extended c.args.state.now.trail c.loop-conflict.state.trail c.propagate.new.trail c.loop-conflict.invariant.grown c.propagate.ensures.extended

pub next_open-requires-clause-waiting : goal.next_open-requires-clause-waiting
next_open-requires-clause-waiting c =
    waiting_grown c.propagate.new.trail.steps c.propagate.ensures.extended.newer c.loop-conflict.state.trail.steps c.loop-conflict.state.order c.propagate.ensures.extended.splits c.loop-conflict.invariant.state.waiting

pub returns-in_default-next_open-clause-state : goal.returns-in_default-next_open-clause-state
returns-in_default-next_open-clause-state c =
    let s = c.loop-conflict.invariant.state in
    let e = c.propagate.ensures.extended in
    record {
      fit = c.propagate.ensures.fit;
      units = units_grown c.loop-conflict.state.pool c.propagate.new.pool c.loop-conflict.state.trail.steps c.propagate.new.trail.steps e.newer c.propagate.ensures.same_pool e.splits s.units;
      waiting = c.in_default-next_open.ensures.none;
      variables = c.next_open.ensures.variables ∙ s.variables ∙ sym e.variables;
      few = subst (λ n. n < 2 ^ 31) (sym e.variables) s.few;
    }

pub returns-in_default-next_open-clause-satisfied : goal.returns-in_default-next_open-clause-satisfied
returns-in_default-next_open-clause-satisfied c =
    let s = c.loop-conflict.invariant.state in
    let e = c.propagate.ensures.extended in
    all_true c.propagate.new.pool c.propagate.new.trail c.next_open.new.order c.propagate.ensures.fit c.in_default.ensures.nothing_follows
    (units_grown c.loop-conflict.state.pool c.propagate.new.pool c.loop-conflict.state.trail.steps c.propagate.new.trail.steps e.newer c.propagate.ensures.same_pool e.splits s.units)
    c.in_default-next_open.ensures.none (c.next_open.ensures.variables ∙ s.variables ∙ sym e.variables) c.in_default-next_open.ensures.empty

pub returns-in_default-next_open-clause-same_pool : goal.returns-in_default-next_open-clause-same_pool
returns-in_default-next_open-clause-same_pool c = IsSamePool-trans c.args.state.now.pool c.loop-conflict.state.pool c.propagate.new.pool c.loop-conflict.invariant.same_pool c.propagate.ensures.same_pool

pub returns-in_default-next_open-clause-grown : goal.returns-in_default-next_open-clause-grown
returns-in_default-next_open-clause-grown c = IsGrown-extended c.args.state.now.trail c.loop-conflict.state.trail c.propagate.new.trail c.loop-conflict.invariant.grown c.propagate.ensures.extended

pub loop-conflict-smaller : goal.loop-conflict-smaller
loop-conflict-smaller c =
    let sound = sound_with c.propagate.new.trail c.in-Some-next_open.literal Decision c.propagate.ensures.fit.trail_sound c.in-Some-next_open.ensures.below c.in-Some-next_open.ensures.open_value in
    let few : length c.propagate.new.trail.steps + 1 ≤ c.propagate.new.trail.variables = omega (arith, sound.few_steps) in
    let more : length c.loop-conflict.state.trail.steps ≤ length c.propagate.new.trail.steps = omega (arith, ap length c.propagate.ensures.extended.splits, length-append c.propagate.ensures.extended.newer c.loop-conflict.state.trail.steps) in
    let now : length c.assign.new.self.steps ≡ length c.propagate.new.trail.steps + 1 = omega (arith, ap (λ (v : TrailValue). length v.steps) c.assign.ensures) in
    let same : c.assign.new.self.variables ≡ c.propagate.new.trail.variables = ap (λ (v : TrailValue). v.variables) c.assign.ensures in
    omega (arith, few, more, now, same, c.propagate.ensures.extended.variables)

pub loop-conflict-preserved : goal.loop-conflict-preserved
loop-conflict-preserved c =
    let s = c.loop-conflict.invariant.state in
    let e = c.propagate.ensures.extended in
    let l = c.in-Some-next_open.literal in
    let t = c.propagate.new.trail in
    subst (λ (v : TrailValue). (record {
      state : IsState (record { pool = c.propagate.new.pool; trail = v; order = c.next_open.new.order });
      ready : IsReady c.propagate.new.pool v c.len-handled.result;
      same_pool : IsSamePool c.args.state.now.pool c.propagate.new.pool;
      grown : IsGrown c.args.state.now.trail v;
    })) (sym c.assign.ensures) (record {
      state = record {
        fit = fit_decided c.propagate.new.pool t l c.propagate.ensures.fit c.in_default.ensures.watched (sound_with t l Decision c.propagate.ensures.fit.trail_sound c.in-Some-next_open.ensures.below c.in-Some-next_open.ensures.open_value);
        units = units_grown c.loop-conflict.state.pool c.propagate.new.pool c.loop-conflict.state.trail.steps (with_step t l Decision).steps (record { literal = l; reason = Decision } ∷ e.newer) c.propagate.ensures.same_pool (ap (λ ys. record { literal = l; reason = Decision } ∷ ys) e.splits) s.units;
        waiting = waiting_decided (record { literal = l; reason = Decision }) t.steps c.next_open.new.order c.in-Some-next_open.ensures.waiting;
        variables = c.next_open.ensures.variables ∙ s.variables ∙ sym e.variables;
        few = subst (λ n. n < 2 ^ 31) (sym e.variables) s.few;
      };
      ready = ready_with c.propagate.new.pool t l c.len-handled.result Decision c.in_default.ensures.watched (c.len-handled.ensures ∙ sym (length-map t.steps literal_of)) (omega (arith, c.len-handled.ensures));
      same_pool = IsSamePool-trans c.args.state.now.pool c.loop-conflict.state.pool c.propagate.new.pool c.loop-conflict.invariant.same_pool c.propagate.ensures.same_pool;
      grown = IsGrown-decided c.args.state.now.trail t l (IsGrown-extended c.args.state.now.trail c.loop-conflict.state.trail t c.loop-conflict.invariant.grown e);
    })
