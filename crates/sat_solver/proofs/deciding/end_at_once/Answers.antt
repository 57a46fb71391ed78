use Rattle.std.proofs.Common.{[], arith}
use Rattle.search_log.proofs.Pieces.{failed}
use Rattle.logged_search.specs.Conflicts.{HasConflict}
use Rattle.logged_search.proofs.Decisions.{first-conflict}
use Rattle.logged_search.proofs.Going.{goes-none}
use Rattle.sat_solver.proofs.Fewer.{few-one}
use Rattle.sat_solver.proofs.deciding.end_at_once.Goals as goal

pub returns-then-budget-eq0-clause-ends : goal.returns-then-budget-eq0-clause-ends
returns-then-budget-eq0-clause-ends g c =
    let s = c.args.search.now in
    let f = c.args.formula.now in
    let conflict = first-conflict f [] s.state.pool s.state.trail s.log c.requires.fit c.requires.tied c.args.conflict c.requires.undecided c.requires.conflict in
    let goes = goes-none f s.log (g.S.Sink.held c.args.out.now) [] (HasConflict f) (record { decided = _; conflict = conflict }) in
    record { goes = goes; derived = omega (arith, goes.derived, c.if-budget-eq0.true); few = few-one f c.args.budget c.if-budget-eq0.true }

pub refute-requires-clause-tied : goal.refute-requires-clause-tied
refute-requires-clause-tied g c = record { clauses = []; tied = c.requires.tied }

pub returns-clause-ends : goal.returns-clause-ends
returns-clause-ends g c =
    let closes = c.in_ok-refute.ensures.closes [] c.requires.tied in
    record { before = _; closes = closes; few = few-one c.args.formula.now _ closes.derived }

pub returns-in_err-refute-clause-ends : goal.returns-in_err-refute-clause-ends
returns-in_err-refute-clause-ends g c = failed c.from_residual.result _ _ c.from_residual.ensures.0 (λ e. c.in_err-refute.ensures.closes [] c.requires.tied)
