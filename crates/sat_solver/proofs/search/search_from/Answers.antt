use Rattle.std.proofs.Common.{subst}
use Rattle.ports.specs.Growth.{Grows, GrowsByPrefix}
use Rattle.ports.proofs.GrowthLaws.{cause-then}
use Rattle.refutation_lines.specs.LineText.{header_bytes}
use Rattle.search_log.proofs.Pieces.{failed}
use Rattle.logged_search.proofs.Answered.{answers-so}
use Rattle.sat_solver.specs.Opened.{IsBegun}
use Rattle.sat_solver.proofs.Answered.{breaks-faults, header-faults}
use Rattle.sat_solver.proofs.search.search_from.Goals as goal

pub returns-in_err-put_header-clause-ends : goal.returns-in_err-put_header-clause-ends
returns-in_err-put_header-clause-ends g c =
    failed c.from_residual.result _ _ c.from_residual.ensures.0 (λ e. header-faults c.args.formula.now (g.S.Sink.held c.args.log.now) (g.S.Sink.held c.put_header.new.out)
    (subst (λ n. GrowsByPrefix (g.S.Sink.held c.args.log.now) (g.S.Sink.held c.put_header.new.out) (header_bytes n)) c.steps.ensures c.in_err-put_header.ensures.bytes))

pub end_at_once-requires : goal.end_at_once-requires
end_at_once-requires g c = subst (IsBegun c.args.formula.now c.args.state.now) c.in-Some.is c.requires

pub returns-in-Some-clause-ends : goal.returns-in-Some-clause-ends
returns-in-Some-clause-ends g c =
    let f = c.args.formula.now in
    let begun = g.S.Sink.held c.put_header.new.out in
    let header : Grows (g.S.Sink.held c.args.log.now) begun (header_bytes f.steps) = subst (λ n. Grows (g.S.Sink.held c.args.log.now) begun (header_bytes n)) c.steps.ensures c.in_ok-put_header.ensures.bytes in
    answers-so c.end_at_once.result _ _ _ _ (λ end ends. record { begun = begun; header = header; rest = ends })
    (λ e breaks. breaks-faults f (g.S.Sink.held c.args.log.now) begun (g.S.Sink.held c.end_at_once.new.out) header breaks) c.end_at_once.ensures.ends

pub returns-in-Some-clause-cause : goal.returns-in-Some-clause-cause
returns-in-Some-clause-cause g c = cause-then _ _ _ c.end_at_once.result c.in_ok-put_header.ensures.cause.kept c.end_at_once.ensures.cause

pub returns-in-Some-clause-rest : goal.returns-in-Some-clause-rest
returns-in-Some-clause-rest g c = g.met.S.Sink.rest_trans _ _ _ c.in_ok-put_header.ensures.rest c.end_at_once.ensures.rest

pub decide-requires-clause-logged : goal.decide-requires-clause-logged
decide-requires-clause-logged g c = (subst (IsBegun c.args.formula.now c.args.state.now) c.in-None.is c.requires).logged

pub decide-requires-clause-begun : goal.decide-requires-clause-begun
decide-requires-clause-begun g c = (subst (IsBegun c.args.formula.now c.args.state.now) c.in-None.is c.requires).derived

pub returns-in-None-clause-ends : goal.returns-in-None-clause-ends
returns-in-None-clause-ends g c =
    let f = c.args.formula.now in
    let begun = g.S.Sink.held c.put_header.new.out in
    let header : Grows (g.S.Sink.held c.args.log.now) begun (header_bytes f.steps) = subst (λ n. Grows (g.S.Sink.held c.args.log.now) begun (header_bytes n)) c.steps.ensures c.in_ok-put_header.ensures.bytes in
    answers-so c.decide.result _ _ _ _ (λ end ends. record { begun = begun; header = header; rest = ends })
    (λ e breaks. breaks-faults f (g.S.Sink.held c.args.log.now) begun (g.S.Sink.held c.decide.new.out) header breaks) c.decide.ensures.ends

pub returns-in-None-clause-cause : goal.returns-in-None-clause-cause
returns-in-None-clause-cause g c = cause-then _ _ _ c.decide.result c.in_ok-put_header.ensures.cause.kept c.decide.ensures.cause

pub returns-in-None-clause-rest : goal.returns-in-None-clause-rest
returns-in-None-clause-rest g c = g.met.S.Sink.rest_trans _ _ _ c.in_ok-put_header.ensures.rest c.decide.ensures.rest
