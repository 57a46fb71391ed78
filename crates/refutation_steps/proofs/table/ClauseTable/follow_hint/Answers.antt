use Rattle.std.proofs.Common.{false}
use Rattle.refutation_steps.proofs.Converse.{followed, unit-below, wrong-hint}
use Rattle.refutation_steps.proofs.TableLaws.{table-made}
use Rattle.refutation_steps.proofs.table.ClauseTable.follow_hint.Goals as goal

pub returns-in-Err-clause-wrong : goal.returns-in-Err-clause-wrong
returns-in-Err-clause-wrong c =
    let t = c.self.inside in
    rw (← c.self.view_is, ← c.in_ok-hint.ensures.number)
    (wrong-hint t.variables.keys c.self.invariant.apart t.marks c.self.invariant.marked t.live c.self.invariant.known false c.in_ok-hint.hint c.in-Err.refusal c.in-Err.ensures)

pub invariant_of-self : goal.invariant_of-self
invariant_of-self c =
    let t = c.self.inside in
    table-made c.make_true.result t.variables.keys t.live t.clause t.marks c.make_true.new.marks c.in-Ok.unit c.self.invariant
    (unit-below t.variables.keys c.self.invariant.apart t.marks c.self.invariant.marked t.live c.self.invariant.known c.in_ok-hint.hint c.in-Ok.unit c.in-Ok.ensures)
    c.make_true.ensures.ok c.make_true.ensures.same

pub returns-clause-followed : goal.returns-clause-followed
returns-clause-followed c =
    let t = c.self.inside in
    rw (← c.self.view_is, ← c.in_ok-hint.ensures.number)
    (followed t.variables.keys c.self.invariant.apart t.marks c.self.invariant.marked t.live c.self.invariant.known c.in_ok-hint.hint c.in-Ok.unit c.make_true.new.marks
    c.in-Ok.ensures c.in_ok-make_true.ensures.ok)
