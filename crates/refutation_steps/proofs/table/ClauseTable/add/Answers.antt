use Rattle.refutation_steps.proofs.TableLaws.{table-after, value-more}
use Rattle.refutation_steps.proofs.table.ClauseTable.add.Goals as goal

pub invariant_of-self-2 : goal.invariant_of-self-2
invariant_of-self-2 c =
    let t = c.self.inside in
    let number = c.in_ok-number in
    table-after t.variables.keys c.place.new.variables.keys c.args.literal.now t.live t.clause t.marks c.self.invariant number.ensures.added number.number
    number.ensures.number number.ensures.below c.push.result c.push.new.self c.push.ensures.ok c.push.ensures.memory

pub returns : goal.returns
returns c =
    let t = c.self.inside in
    let number = c.in_ok-number in
    rw (← c.self.view_is) (record {
      ok = value-more t.variables.keys c.place.new.variables.keys c.args.literal.now t.live t.clause t.marks c.self.invariant number.ensures.added number.number
          number.ensures.number number.ensures.below c.push.result c.push.new.self c.push.ensures.ok;
    })
