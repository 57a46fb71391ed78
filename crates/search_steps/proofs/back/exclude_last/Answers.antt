use Rattle.std.proofs.Common.{◌-◌, ◌<◌, ◌*◌, sym, ◌∙◌, ap, subst, arith}
use Rattle.std.proofs.lemmas.List.{length-map}
use Rattle.literals.specs.Literal.{opposite_of}
use Rattle.literals.specs.Propagation.{HasNoValueIn}
use Rattle.trail.specs.Steps.{TrailValue, literal_of, literals_of, level_of, back_to, with_step}
use Rattle.trail.specs.declared.step.Reason.TheVariants.{Decisions}
use Rattle.propagation.specs.Ready.{IsReady}
use Rattle.propagation.specs.Watches.{AreWatched}
use Rattle.propagation.proofs.Settled.{back_is_watched}
use Rattle.search_steps.specs.States.{IsState}
use Rattle.search_steps.proofs.Keeping.{ready_with}
use Rattle.search_steps.proofs.Returning.{last_decision, open_opposite, below_opposite, state_excluded}
use Rattle.search_steps.proofs.back.exclude_last.Goals as goal

pub overflow_sub-level : goal.overflow_sub-level
overflow_sub-level c =
    let t = c.args.state.now.trail in
    let last = last_decision t.variables t.steps (opposite_of c.args.literal) c.requires.last.earlier c.requires.state.fit.trail_sound.steps c.requires.last.last in
    omega (arith, last.some, c.level-level.ensures)

pub assign-requires-clause-below : goal.assign-requires-clause-below
assign-requires-clause-below c =
    let t = c.args.state.now.trail in
    let last = last_decision t.variables t.steps (opposite_of c.args.literal) c.requires.last.earlier c.requires.state.fit.trail_sound.steps c.requires.last.last in
    subst (λ (v : TrailValue). c.args.literal < 2 * v.variables) (sym c.unwind.ensures.trail) (below_opposite c.args.literal t.variables last.below)

pub assign-requires-clause-open_value : goal.assign-requires-clause-open_value
assign-requires-clause-open_value c =
    let t = c.args.state.now.trail in
    let last = last_decision t.variables t.steps (opposite_of c.args.literal) c.requires.last.earlier c.requires.state.fit.trail_sound.steps c.requires.last.last in
    subst (λ (v : TrailValue). HasNoValueIn (literals_of v.steps) c.args.literal) (sym c.unwind.ensures.trail)
    (subst (λ k. HasNoValueIn (literals_of (back_to (k - 1) t.steps)) c.args.literal) (sym c.level-level.ensures) (open_opposite (literals_of (back_to (level_of t.steps - 1) t.steps)) c.args.literal last.open_value))

pub returns-clause-state : goal.returns-clause-state
returns-clause-state c =
    let t = c.args.state.now.trail in
    let last = last_decision t.variables t.steps (opposite_of c.args.literal) c.requires.last.earlier c.requires.state.fit.trail_sound.steps c.requires.last.last in
    subst (λ (v : TrailValue). IsState (record { pool = c.unwind.new.state.pool; trail = v; order = c.unwind.new.state.order })) (sym c.assign.ensures)
    (state_excluded c.unwind.new.state c.args.literal c.unwind.ensures.state
    (subst (λ (v : TrailValue). c.args.literal < 2 * v.variables) (sym c.unwind.ensures.trail) (below_opposite c.args.literal t.variables last.below))
    (subst (λ (v : TrailValue). HasNoValueIn (literals_of v.steps) c.args.literal) (sym c.unwind.ensures.trail)
    (subst (λ k. HasNoValueIn (literals_of (back_to (k - 1) t.steps)) c.args.literal) (sym c.level-level.ensures) (open_opposite (literals_of (back_to (level_of t.steps - 1) t.steps)) c.args.literal last.open_value))))

pub returns-clause-trail : goal.returns-clause-trail
returns-clause-trail c =
    c.assign.ensures ∙ ap (λ (v : TrailValue). with_step v c.args.literal Decisions) c.unwind.ensures.trail ∙ ap (λ k. let v : TrailValue = record { steps = back_to (k - 1) c.args.state.now.trail.steps; variables = c.args.state.now.trail.variables } in with_step v c.args.literal Decisions) c.level-level.ensures

pub returns-clause-ready : goal.returns-clause-ready
returns-clause-ready c =
    let t = c.args.state.now.trail in
    let last = last_decision t.variables t.steps (opposite_of c.args.literal) c.requires.last.earlier c.requires.state.fit.trail_sound.steps c.requires.last.last in
    let watched = back_is_watched c.args.state.now.pool.clauses t.steps (c.level-level.result - 1) (omega (arith, last.some, c.level-level.ensures)) c.requires.state.fit.below in
    let watched_now = subst (λ (v : TrailValue). AreWatched (literals_of v.steps) (literals_of v.steps) c.unwind.new.state.pool.clauses) (sym c.unwind.ensures.trail)
    (subst (λ (p : Rattle.clause_pool.specs.PoolValue.PoolValue). AreWatched (literals_of (back_to (c.level-level.result - 1) t.steps)) (literals_of (back_to (c.level-level.result - 1) t.steps)) p.clauses) (sym c.unwind.ensures.pool) watched) in
    subst (λ (v : TrailValue). IsReady c.unwind.new.state.pool v c.len-handled.result) (sym c.assign.ensures)
    (ready_with c.unwind.new.state.pool c.unwind.new.state.trail c.args.literal c.len-handled.result Decisions watched_now (c.len-handled.ensures ∙ sym (length-map c.unwind.new.state.trail.steps literal_of)) (omega (arith, c.len-handled.ensures)))
