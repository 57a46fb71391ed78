use Rattle.refutation_steps.proofs.TableLaws.{took-or}
use Rattle.refutation_steps.proofs.table.ClauseTable.take_out.Goals as goal

pub returns-in-Ok : goal.returns-in-Ok
returns-in-Ok c =
    let t = c.self.inside in
    rw (← c.self.view_is)
    (took-or c.take_out.result t.variables.keys t.live c.take_out.new.self t.clause t.marks c.in-Ok.number c.args.number c.in-Ok.ensures.number c.self.invariant
    c.take_out.ensures.taken)
