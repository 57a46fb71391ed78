-- By the thread's actions, if it acts.
use Rattle.std.proofs.Common.{ℕ, IfOk, subst}
use Rattle.thread_runs.specs.Judged.{StandsAt}
use Rattle.thread_runs.proofs.judge.judge.Goals as goal

pub returns-in-Some : goal.returns-in-Some
returns-in-Some c =
    subst (λ (k : ℕ). IfOk c.acting.result (StandsAt c.args.orders.now.flat.program.now c.args.orders.now.flat.execution.now c.args.bounds.now k)) c.in-Some.ensures.own c.acting.ensures

pub returns-in-None : goal.returns-in-None
returns-in-None c = c.idle.ensures c.args.bounds.now
