-- The walk begins at the entry, goes one step further at a time, and ends where the run ends or can't go on.
use Rattle.std.proofs.lemmas.Result.{err_from_is_err_and}
use Rattle.thread_meaning.specs.Tracing.{has_ended}
use Rattle.thread_meaning.proofs.Acting.{not_true}
use Rattle.thread_meaning.proofs.UnderWay.{starts, goes_on, comes_nearer, stops, finished, unfinished}
use Rattle.thread_meaning.proofs.tracing.follow.Goals as goal

pub steps-init : goal.steps-init
steps-init c = starts c.args.program.now c.args.thread (has_ended c.args.ended) c.args.reads.now c.args.bounds.now c.in_ok-walk.walk c.in_ok-walk.ensures.ok

pub steps-smaller : goal.steps-smaller
steps-smaller c = comes_nearer c.args.program.now c.args.thread (has_ended c.args.ended) c.args.reads.now c.args.bounds.now c.steps.walk c.advance.new.self c.steps.invariant c.in_ok-advance.ensures.ok

pub steps-preserved : goal.steps-preserved
steps-preserved c = goes_on c.args.program.now c.args.thread (has_ended c.args.ended) c.args.reads.now c.args.bounds.now c.steps.walk c.advance.new.self c.steps.invariant c.in_ok-advance.ensures.ok

pub returns-in_err-advance-clause-err : goal.returns-in_err-advance-clause-err
returns-in_err-advance-clause-err c =
    let p = err_from_is_err_and c.from_residual-in_err-advance.result c.from_residual-in_err-advance.ensures.1 in
    rw (p.1, p.2) (stops c.args.program.now c.args.thread (has_ended c.args.ended) c.args.reads.now c.args.bounds.now c.steps.walk c.in_err-advance.field-0.0 c.steps.invariant
    (λ e. not_true c.is_empty.result c.steps-test.true (c.is_empty.ensures.1 e)) c.in_err-advance.ensures.err)

pub returns-clause-ok : goal.returns-clause-ok
returns-clause-ok c = finished c.args.program.now c.args.thread (has_ended c.args.ended) c.args.reads.now c.args.bounds.now c.steps.walk c.finish.result c.steps.invariant (c.is_empty.ensures.0 c.steps-test.false) c.finish.ensures.ok

pub returns-clause-err : goal.returns-clause-err
returns-clause-err c = unfinished c.args.program.now c.args.thread (has_ended c.args.ended) c.args.reads.now c.args.bounds.now c.steps.walk c.finish.result c.steps.invariant (c.is_empty.ensures.0 c.steps-test.false) c.finish.ensures.err
