use Rattle.std.proofs.Common.{◌≡◌, refl, sym, ◌∙◌, ap, arith}
use Rattle.texts.proofs.TextLaws.{cause-failed}
use Rattle.trail.specs.Steps.{TrailValue, back_to}
use Rattle.trail.proofs.Back.{back_to-here, back_in-step}
use Rattle.search_log.proofs.Pieces.{failed}
use Rattle.logged_search.proofs.Going.{goes-none, goes-then, goes-breaks}
use Rattle.logged_search.proofs.unwinding.unwind.Goals as goal

pub loop-state-init : goal.loop-state-init
loop-state-init g c = record {
  state = c.requires.state;
  back = refl;
  pool = refl;
  derived = refl;
  goes = λ formula clauses learned pending. goes-none formula c.args.log.now _ clauses _ pending;
  kept = omega arith;
  rest = g.met.S.Sink.rest_refl _;
}

pub take_back-requires-clause-pending : goal.take_back-requires-clause-pending
take_back-requires-clause-pending g c =
    let was = c.requires.pending in
    let goes = c.loop-state.invariant.goes was.formula was.clauses was.learned was.pending in
    record { formula = was.formula; clauses = goes.after; learned = was.learned; pending = goes.holds }

pub returns-in_err-take_back-clause-goes : goal.returns-in_err-take_back-clause-goes
returns-in_err-take_back-clause-goes g c =
    failed c.from_residual.result _ _ c.from_residual.ensures.0 (λ e formula clauses learned pending.
    goes-breaks formula c.args.log.now c.loop-state.log _ _ _ clauses _ (c.loop-state.invariant.goes formula clauses learned pending) (λ after is. c.in_err-take_back.ensures.goes formula after learned is))

pub returns-in_err-take_back-clause-cause : goal.returns-in_err-take_back-clause-cause
returns-in_err-take_back-clause-cause g c = cause-failed _ _ _ _ c.loop-state.invariant.kept c.in_err-take_back.ensures.cause.kept c.in_err-take_back.ensures.cause.cause

pub returns-in_err-take_back-clause-rest : goal.returns-in_err-take_back-clause-rest
returns-in_err-take_back-clause-rest g c = g.met.S.Sink.rest_trans _ _ _ c.loop-state.invariant.rest c.in_err-take_back.ensures.rest

pub loop-state-preserved : goal.loop-state-preserved
loop-state-preserved g c =
    let before = c.loop-state.invariant in
    record {
      state = c.in_ok-take_back.ensures.state;
      back = (back_in-step c.args.level c.loop-state.state.trail c.take_back.new.state.trail c.in_ok-take_back.ensures.trail (omega (arith, c.level.ensures, c.loop-state-test.true))).0 ∙ before.back;
      pool = c.in_ok-take_back.ensures.pool ∙ before.pool;
      derived = c.in_ok-take_back.ensures.derived ∙ before.derived;
      goes = λ formula clauses learned pending.
          goes-then formula c.args.log.now c.loop-state.log c.take_back.new.log _ _ _ clauses _ _ (before.goes formula clauses learned pending) (λ after is. c.in_ok-take_back.ensures.goes formula after learned is);
      kept = omega (arith, before.kept, c.in_ok-take_back.ensures.cause.kept);
      rest = g.met.S.Sink.rest_trans _ _ _ before.rest c.in_ok-take_back.ensures.rest;
    }

pub loop-state-smaller : goal.loop-state-smaller
loop-state-smaller g c = (back_in-step c.args.level c.loop-state.state.trail c.take_back.new.state.trail c.in_ok-take_back.ensures.trail (omega (arith, c.level.ensures, c.loop-state-test.true))).1

pub returns-clause-trail : goal.returns-clause-trail
returns-clause-trail g c =
    let here : back_to c.args.level c.loop-state.state.trail.steps ≡ c.loop-state.state.trail.steps = back_to-here c.args.level c.loop-state.state.trail.steps (omega (arith, c.level.ensures, c.loop-state-test.false)) in
    ap (λ ys. let v : TrailValue = record { steps = ys; variables = c.loop-state.state.trail.variables } in v) (sym here) ∙ c.loop-state.invariant.back
