use Rattle.std.proofs.Common.{◌∙◌, sym, arith}
use Rattle.rule_base.proofs.Steps.{past_end}
use Rattle.rule_base.proofs.odometer.InstancesIterator.next.Goals as goal

pub returns-clause-steps : goal.returns-clause-steps
returns-clause-steps c =
    let e = past_end c.loop-self.self.question c.loop-self.self.table.rows.now c.loop-self.self.place
    c.loop-self.self.chosen c.loop-self.self.next (omega arith) in
    (sym c.loop-self.invariant ∙ e, e)
