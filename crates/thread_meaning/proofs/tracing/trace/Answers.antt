use Rattle.thread_meaning.specs.Tracing.{has_ended}
use Rattle.thread_meaning.proofs.Exact.{finds_run}
use Rattle.thread_meaning.proofs.tracing.trace.Goals as goal

pub returns-clause-exactly : goal.returns-clause-exactly
returns-clause-exactly c = λ ordered. finds_run c.args.program.now c.args.thread (has_ended c.args.ended) c.args.reads.now c.args.bounds.now c.follow.result ordered c.follow.ensures.ok c.follow.ensures.err
