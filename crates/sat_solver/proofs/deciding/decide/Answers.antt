use Rattle.std.proofs.Common.{◌≡◌, [], ap, arith}
use Rattle.trail.specs.Steps.{decisions_of}
use Rattle.propagation.proofs.Start.{ready_from_none}
use Rattle.search_log.specs.Names.{LogValue}
use Rattle.search_log.proofs.Pieces.{failed}
use Rattle.logged_search.specs.Logged.{IsLogged}
use Rattle.logged_search.specs.Conflicts.{HasConflict}
use Rattle.logged_search.specs.Going.{derived_in}
use Rattle.logged_search.proofs.Going.{goes-breaks, goes-closes, goes-none, goes-so, goes-then}
use Rattle.logged_search.proofs.Decisions.{conflict-of}
use Rattle.sat_solver.proofs.Fewer.{few-more}
use Rattle.sat_solver.proofs.deciding.decide.Goals as goal

pub loop-conflict-init : goal.loop-conflict-init
loop-conflict-init g c = record {
  goes = goes-none c.args.formula.now c.args.search.now.log _ [] (IsLogged c.args.formula.now c.args.search.now) c.requires.logged;
  ready = ready_from_none c.args.search.now.state.pool c.args.search.now.state.trail;
  within = omega (arith, c.requires.begun);
  kept = omega arith;
  rest = g.met.S.Sink.rest_refl _;
}

pub settle-requires-clause-state : goal.settle-requires-clause-state
settle-requires-clause-state g c = c.loop-conflict.invariant.goes.holds.state

pub returns-in_default-clause-ends : goal.returns-in_default-clause-ends
returns-in_default-clause-ends g c =
    let f = c.args.formula.now in
    let before = c.loop-conflict.invariant.goes in
    let goes = goes-so f c.args.search.now.log c.loop-conflict.search.log c.settle.new.search.log (g.S.Sink.held c.args.out.now) (g.S.Sink.held c.loop-conflict.out) [] (IsLogged f c.loop-conflict.search) (IsLogged f c.settle.new.search)
    (ap (λ (l : LogValue). l.derived) c.settle.ensures.log) (λ after logged. c.settle.ensures.logged f after logged) before in
    let one = few-more f c.settle.new.search before.after (derived_in goes.lines) (c.settle.ensures.logged f before.after before.holds) (omega (arith, goes.derived, c.requires.begun)) in
    record { goes = goes; few = omega (arith, one); are_true = c.in_default.ensures.satisfied }

pub returns-then-derived-budget-clause-ends : goal.returns-then-derived-budget-clause-ends
returns-then-derived-budget-clause-ends g c =
    let f = c.args.formula.now in
    let now = c.settle.new.search in
    let goes = goes-so f c.args.search.now.log c.loop-conflict.search.log now.log (g.S.Sink.held c.args.out.now) (g.S.Sink.held c.loop-conflict.out) [] (IsLogged f c.loop-conflict.search) (HasConflict f)
    (ap (λ (l : LogValue). l.derived) c.settle.ensures.log) (λ after before. (
    let logged = c.settle.ensures.logged f after before in
    record {
      decided = decisions_of now.state.trail.steps;
      conflict = conflict-of f after now.state.pool now.state.trail now.log logged.state.fit logged.tied logged.state.units logged.named logged.holds c.in-Some.conflict c.in-Some.ensures.conflict;
    })) c.loop-conflict.invariant.goes in
    let before = c.loop-conflict.invariant.goes in
    let logged = c.settle.ensures.logged f before.after before.holds in
    record {
      goes = goes;
      derived = omega (arith, goes.derived, c.requires.begun, c.if-derived-budget.true, c.derived-derived.ensures.derived);
      few = few-more f now before.after c.args.budget logged (omega (arith, c.if-derived-budget.true, c.derived-derived.ensures.derived));
    }

pub refute-requires-clause-sized : goal.refute-requires-clause-sized
refute-requires-clause-sized g c =
    let goes = c.loop-conflict.invariant.goes in
    (c.settle.ensures.logged c.args.formula.now goes.after goes.holds).sized.analysis

pub refute-requires-clause-tied : goal.refute-requires-clause-tied
refute-requires-clause-tied g c =
    let goes = c.loop-conflict.invariant.goes in
    record { clauses = goes.after; tied = (c.settle.ensures.logged c.args.formula.now goes.after goes.holds).tied }

pub refute-requires-clause-few : goal.refute-requires-clause-few
refute-requires-clause-few g c =
    let same : c.settle.new.search.log.derived ≡ c.loop-conflict.search.log.derived = ap (λ (l : LogValue). l.derived) c.settle.ensures.log in
    omega (arith, same, c.loop-conflict.invariant.within, c.if-derived-budget.false, c.derived-derived.ensures.derived, c.ranges.budget.fits)

pub returns-then-level-eq0-clause-ends : goal.returns-then-level-eq0-clause-ends
returns-then-level-eq0-clause-ends g c =
    let f = c.args.formula.now in
    let before = c.loop-conflict.invariant.goes in
    let logged = c.settle.ensures.logged f before.after before.holds in
    let closes = goes-closes f c.args.search.now.log c.loop-conflict.search.log (g.S.Sink.held c.args.out.now) (g.S.Sink.held c.loop-conflict.out) (g.S.Sink.held c.refute.new.out) [] (IsLogged f c.loop-conflict.search) 0 before
    (λ after was. c.in_ok-refute.ensures.closes after (c.settle.ensures.logged f after was).tied) in
    record {
      before = _;
      closes = closes;
      few = few-more f c.settle.new.search before.after (derived_in closes.before) logged (omega (arith, closes.derived, before.derived, c.requires.begun, ap (λ (l : LogValue). l.derived) c.settle.ensures.log));
    }

pub returns-in_err-refute-clause-ends : goal.returns-in_err-refute-clause-ends
returns-in_err-refute-clause-ends g c =
    let f = c.args.formula.now in
    failed c.from_residual.result _ _ c.from_residual.ensures.0 (λ e.
    goes-breaks f c.args.search.now.log c.loop-conflict.search.log (g.S.Sink.held c.args.out.now) (g.S.Sink.held c.loop-conflict.out) (g.S.Sink.held c.refute.new.out) [] (IsLogged f c.loop-conflict.search) c.loop-conflict.invariant.goes
    (λ after logged. c.in_err-refute.ensures.closes after (c.settle.ensures.logged f after logged).tied))

pub answer_conflict-requires-clause-logged : goal.answer_conflict-requires-clause-logged
answer_conflict-requires-clause-logged g c =
    let goes = c.loop-conflict.invariant.goes in
    record { clauses = goes.after; logged = c.settle.ensures.logged c.args.formula.now goes.after goes.holds }

pub answer_conflict-requires-clause-few : goal.answer_conflict-requires-clause-few
answer_conflict-requires-clause-few g c =
    let same : c.settle.new.search.log.derived ≡ c.loop-conflict.search.log.derived = ap (λ (l : LogValue). l.derived) c.settle.ensures.log in
    omega (arith, same, c.loop-conflict.invariant.within, c.if-derived-budget.false, c.derived-derived.ensures.derived, c.ranges.budget.fits)

pub returns-in_err-handled-clause-ends : goal.returns-in_err-handled-clause-ends
returns-in_err-handled-clause-ends g c =
    let f = c.args.formula.now in
    failed c.from_residual-in_err-handled.result _ _ c.from_residual-in_err-handled.ensures.0 (λ e.
    goes-breaks f c.args.search.now.log c.loop-conflict.search.log (g.S.Sink.held c.args.out.now) (g.S.Sink.held c.loop-conflict.out) (g.S.Sink.held c.answer_conflict.new.out) [] (IsLogged f c.loop-conflict.search) c.loop-conflict.invariant.goes
    (λ after logged. c.in_err-handled.ensures.goes after (c.settle.ensures.logged f after logged)))

pub loop-conflict-preserved : goal.loop-conflict-preserved
loop-conflict-preserved g c =
    let f = c.args.formula.now in
    let before = c.loop-conflict.invariant in
    let same : c.settle.new.search.log.derived ≡ c.loop-conflict.search.log.derived = ap (λ (l : LogValue). l.derived) c.settle.ensures.log in
    let settled = goes-so f c.args.search.now.log c.loop-conflict.search.log c.settle.new.search.log (g.S.Sink.held c.args.out.now) (g.S.Sink.held c.loop-conflict.out) [] (IsLogged f c.loop-conflict.search) (IsLogged f c.settle.new.search)
    same (λ after logged. c.settle.ensures.logged f after logged) before.goes in
    record {
      goes = goes-then f c.args.search.now.log c.settle.new.search.log c.answer_conflict.new.search.log (g.S.Sink.held c.args.out.now) (g.S.Sink.held c.loop-conflict.out) (g.S.Sink.held c.answer_conflict.new.out) [] (IsLogged f c.settle.new.search) (IsLogged f c.answer_conflict.new.search)
          settled (λ after logged. c.in_ok-handled.ensures.goes after logged);
      ready = c.in_ok-handled.ensures.ready;
      within = omega (arith, same, before.within, c.if-derived-budget.false, c.derived-derived.ensures.derived, c.in_ok-handled.ensures.derived);
      kept = omega (arith, before.kept, c.in_ok-handled.ensures.cause.kept);
      rest = g.met.S.Sink.rest_trans _ _ _ before.rest c.in_ok-handled.ensures.rest;
    }

pub loop-conflict-smaller : goal.loop-conflict-smaller
loop-conflict-smaller g c =
    let same : c.settle.new.search.log.derived ≡ c.loop-conflict.search.log.derived = ap (λ (l : LogValue). l.derived) c.settle.ensures.log in
    omega (arith, same, c.loop-conflict.invariant.within, c.if-derived-budget.false, c.derived-derived.ensures.derived, c.in_ok-handled.ensures.derived)
