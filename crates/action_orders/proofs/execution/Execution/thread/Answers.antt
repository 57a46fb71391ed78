use Rattle.std.specs.Result.{is_ok}
use Rattle.action_orders.proofs.Builders.{kept_if}
use Rattle.action_orders.proofs.execution.Execution.thread.Goals as goal

pub invariant_of-self : goal.invariant_of-self
invariant_of-self c =
    rw (c.push.ensures.items, c.new.ensures) (kept_if (is_ok c.push.result) (record { threads = c.self.inside.threads.items; so = c.self.inside.so.items }) c.args.thread
    c.self.invariant (rw (← c.self.view_is) at c.requires.next) c.requires.few)
