use Rattle.refutation_steps.proofs.TableLaws.{clauses-same, fresh, literals-more, repeated, table-after, table-grown, table-read-marked, trues-more}
use Rattle.refutation_steps.proofs.table.ClauseTable.read_literal.Goals as goal

pub returns-then-is_either_marked-clause-new : goal.returns-then-is_either_marked-clause-new
returns-then-is_either_marked-clause-new c =
    let t = c.self.inside in
    let number = c.in_ok-number in
    rw (← c.self.view_is)
    (repeated t.variables.keys c.place.new.variables.keys c.args.literal.now t.live t.clause t.marks c.self.invariant number.ensures.added number.number
    number.ensures.number number.ensures.below (rw (← c.self.view_is) at c.requires) c.negation-opposite.result c.negation-opposite.ensures
    (c.is_either_marked.ensures.marked c.if-is_either_marked.true))

pub returns-then-is_either_marked-clause-clauses : goal.returns-then-is_either_marked-clause-clauses
returns-then-is_either_marked-clause-clauses c =
    let t = c.self.inside in
    let number = c.in_ok-number in
    rw (← c.self.view_is)
    (clauses-same t.variables.keys c.place.new.variables.keys c.args.literal.now t.live t.clause t.marks c.self.invariant number.ensures.added number.number
    number.ensures.number number.ensures.below)

pub invariant_of-self-in_err-push : goal.invariant_of-self-in_err-push
invariant_of-self-in_err-push c =
    let t = c.self.inside in
    let number = c.in_ok-number in
    table-after t.variables.keys c.place.new.variables.keys c.args.literal.now t.live t.clause t.marks c.self.invariant number.ensures.added number.number
    number.ensures.number number.ensures.below c.push.result c.push.new.self c.push.ensures.ok c.push.ensures.memory

pub invariant_of-self-in_err-mark : goal.invariant_of-self-in_err-mark
invariant_of-self-in_err-mark c =
    let t = c.self.inside in
    let number = c.in_ok-number in
    table-read-marked t.variables.keys c.place.new.variables.keys c.args.literal.now t.live t.clause t.marks c.self.invariant number.ensures.added number.number
    number.ensures.number number.ensures.below c.mark.result c.push.new.self c.mark.new.self c.negation-opposite.result c.in_ok-push.ensures.ok
    c.negation-opposite.ensures c.mark.ensures.ok c.mark.ensures.memory

pub invariant_of-self-2 : goal.invariant_of-self-2
invariant_of-self-2 c =
    let t = c.self.inside in
    let number = c.in_ok-number in
    table-read-marked t.variables.keys c.place.new.variables.keys c.args.literal.now t.live t.clause t.marks c.self.invariant number.ensures.added number.number
    number.ensures.number number.ensures.below c.mark.result c.push.new.self c.mark.new.self c.negation-opposite.result c.in_ok-push.ensures.ok
    c.negation-opposite.ensures c.mark.ensures.ok c.mark.ensures.memory

pub returns-clause-new : goal.returns-clause-new
returns-clause-new c =
    let t = c.self.inside in
    let number = c.in_ok-number in
    rw (← c.self.view_is)
    (fresh t.variables.keys c.place.new.variables.keys c.args.literal.now t.live t.clause t.marks c.self.invariant number.ensures.added number.number
    number.ensures.number number.ensures.below (rw (← c.self.view_is) at c.requires) c.negation-opposite.result c.negation-opposite.ensures
    (c.is_either_marked.ensures.number c.if-is_either_marked.false) (c.is_either_marked.ensures.other c.if-is_either_marked.false))

pub returns-clause-clauses : goal.returns-clause-clauses
returns-clause-clauses c =
    let t = c.self.inside in
    let number = c.in_ok-number in
    rw (← c.self.view_is)
    (clauses-same t.variables.keys c.place.new.variables.keys c.args.literal.now t.live t.clause t.marks c.self.invariant number.ensures.added number.number
    number.ensures.number number.ensures.below)

pub returns-clause-literals : goal.returns-clause-literals
returns-clause-literals c = λ yes.
    let t = c.self.inside in
    let number = c.in_ok-number in
    rw (← c.self.view_is)
    (literals-more t.variables.keys c.place.new.variables.keys c.args.literal.now t.live t.clause t.marks c.self.invariant number.ensures.added number.number
    number.ensures.number number.ensures.below c.push.new.self c.in_ok-push.ensures.ok)

pub returns-clause-trues : goal.returns-clause-trues
returns-clause-trues c = λ yes.
    let t = c.self.inside in
    let number = c.in_ok-number in
    rw (← c.self.view_is)
    (trues-more t.variables.keys c.place.new.variables.keys c.args.literal.now t.live t.clause t.marks c.self.invariant number.ensures.added number.number
    number.ensures.number number.ensures.below c.mark.new.self c.negation-opposite.result c.in_ok-mark.ensures.ok c.negation-opposite.ensures)

pub invariant_of-self-then-is_either_marked : goal.invariant_of-self-then-is_either_marked
invariant_of-self-then-is_either_marked c =
    let t = c.self.inside in
    table-grown t.variables.keys c.place.new.variables.keys c.args.literal.now.var t.live t.clause t.marks c.in_ok-number.ensures.added c.self.invariant
