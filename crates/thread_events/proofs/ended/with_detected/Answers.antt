-- The bit of the thread.
use Rattle.std.proofs.Common.{◌≤◌, arith, subst}
use Rattle.action_orders.specs.Spelling.{IsSpeltOperand}
use Rattle.thread_events.proofs.Detected.{with_thread}
use Rattle.thread_events.proofs.ended.with_detected.Goals as goal

pub returns-in-Detect-Thread : goal.returns-in-Detect-Thread
returns-in-Detect-Thread c k =
    let few : c.in-Detect-Thread.thread ≤ 7 = subst IsSpeltOperand c.in-Detect-Thread.is-1 c.requires in
    with_thread c.args.ended c.in-Detect-Thread.thread k c.args.entry.now (omega arith) c.in-Detect-Thread.is-0 c.in-Detect-Thread.is-1
