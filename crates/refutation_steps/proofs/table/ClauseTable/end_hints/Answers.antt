use Rattle.refutation_steps.proofs.Converse.{last-judged}
use Rattle.refutation_steps.proofs.table.ClauseTable.end_hints.Goals as goal

pub returns : goal.returns
returns c =
    let t = c.self.inside in
    rw (← c.self.view_is)
    (last-judged t.variables.keys c.self.invariant.apart t.marks c.self.invariant.marked t.live c.self.invariant.known c.last_hint.result c.in_ok-hint.hint c.args.hint
    c.in_ok-hint.ensures.number c.last_hint.ensures)
