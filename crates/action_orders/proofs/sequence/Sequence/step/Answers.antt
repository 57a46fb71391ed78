use Rattle.std.specs.Result.{is_ok}
use Rattle.action_orders.proofs.Builders.{kept_step}
use Rattle.action_orders.proofs.sequence.Sequence.step.Goals as goal

pub invariant_of-self : goal.invariant_of-self
invariant_of-self c =
    rw (c.push.ensures.items, c.new.ensures) (kept_step (is_ok c.push.result) c.self.inside.steps.items c.args.execution c.self.invariant)
