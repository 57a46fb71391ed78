-- One more thread, and all of them.
use Rattle.std.proofs.Common.{◌+◌, sym, subst, ◌∙◌}
use Rattle.std.proofs.lemmas.Bool.{false≢true}
use Rattle.thread_runs.specs.Judged.{AreSeen}
use Rattle.thread_runs.proofs.Seen.{none_past, one_past, seen_more, wrong_seen}
use Rattle.thread_runs.proofs.check.check_runs.Goals as goal

pub returns-then-is_wrong : goal.returns-then-is_wrong
returns-then-is_wrong c =
    wrong_seen c.args.orders.now.flat.program.now c.args.orders.now.flat.execution.now c.args.bounds.now c.loop-thread.thread c.loop-thread.past c.in_ok-run.run'
    (c.is_wrong.ensures.0 c.if-is_wrong.true) c.loop-thread.invariant c.in_ok-run.ensures

pub loop-thread-preserved : goal.loop-thread-preserved
loop-thread-preserved c =
    subst (AreSeen c.args.orders.now.flat.program.now c.args.orders.now.flat.execution.now c.args.bounds.now (c.loop-thread.thread + 1)) (sym c.with_past-past.ensures)
    (seen_more c.args.orders.now.flat.program.now c.args.orders.now.flat.execution.now c.args.bounds.now c.loop-thread.thread c.loop-thread.past c.in_ok-run.run'
    (λ wrong. false≢true (sym c.if-is_wrong.false ∙ c.is_wrong.ensures.1 wrong)) c.loop-thread.invariant c.in_ok-run.ensures)

pub returns-in-Some : goal.returns-in-Some
returns-in-Some c =
    one_past c.args.orders.now.flat.program.now c.args.orders.now.flat.execution.now c.args.bounds.now c.requires.made.ordered c.loop-thread.thread c.loop-thread-test.false c.in-Some.thread
    (subst (AreSeen c.args.orders.now.flat.program.now c.args.orders.now.flat.execution.now c.args.bounds.now c.loop-thread.thread) c.in-Some.is c.loop-thread.invariant)

pub returns-in-None : goal.returns-in-None
returns-in-None c =
    none_past c.args.orders.now.flat.program.now c.args.orders.now.flat.execution.now c.args.bounds.now c.requires.made.ordered c.loop-thread.thread c.loop-thread-test.false
    (subst (AreSeen c.args.orders.now.flat.program.now c.args.orders.now.flat.execution.now c.args.bounds.now c.loop-thread.thread) c.in-None.is c.loop-thread.invariant)
