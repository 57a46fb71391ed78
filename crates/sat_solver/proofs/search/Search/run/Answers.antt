use Rattle.std.proofs.Common.{◌∙◌, sym}
use Rattle.sat_solver.proofs.Answered.{closes-puts, goes-puts, model-is, spent-puts}
use Rattle.sat_solver.proofs.search.Search.run.Goals as goal

pub assign_all-requires-clause-variables : goal.assign_all-requires-clause-variables
assign_all-requires-clause-variables g c =
    let ends = rw c.in-Ok-Satisfied.field-0-is at c.in-Ok-Satisfied.ensures.ends in
    c.requires.values ∙ sym ends.rest.goes.holds.sized.variables

pub assign_all-requires-clause-sound : goal.assign_all-requires-clause-sound
assign_all-requires-clause-sound g c =
    let ends = rw c.in-Ok-Satisfied.field-0-is at c.in-Ok-Satisfied.ensures.ends in
    ends.rest.goes.holds.state.fit.trail_sound

pub returns-in-Ok-Satisfied-clause-answers : goal.returns-in-Ok-Satisfied-clause-answers
returns-in-Ok-Satisfied-clause-answers g c =
    let s = c.args.self in
    let f = s.formula.now in
    let now = c.search_from.new.state in
    let h = g.S.Sink.held c.args.log.now in
    let h' = g.S.Sink.held c.search_from.new.log in
    let ends = rw c.in-Ok-Satisfied.field-0-is at c.in-Ok-Satisfied.ensures.ends in
    (goes-puts f s.state.log now.log h ends.begun h' _ ends.header ends.rest.goes ends.rest.few, model-is f s.state now ends.begun h' c.assign_all.new.values ends.rest c.assign_all.ensures.holds)

pub returns-in-Ok-Refuted-clause-answers : goal.returns-in-Ok-Refuted-clause-answers
returns-in-Ok-Refuted-clause-answers g c =
    let f = c.args.self.formula.now in
    let ends = rw c.in-Ok-Refuted.field-0-is at c.in-Ok-Refuted.ensures.ends in
    let puts = closes-puts f (g.S.Sink.held c.args.log.now) ends.begun (g.S.Sink.held c.search_from.new.log) ends.header ends.rest in
    (puts, λ value all. c.refuted_is_unsatisfiable.ensures f.clauses puts.lines value puts.refutation all)

pub returns-in-Ok-Spent-clause-answers : goal.returns-in-Ok-Spent-clause-answers
returns-in-Ok-Spent-clause-answers g c =
    let s = c.args.self in
    let ends = rw c.in-Ok-Spent.field-0-is at c.in-Ok-Spent.ensures.ends in
    spent-puts s.formula.now c.args.budget s.state c.search_from.new.state (g.S.Sink.held c.args.log.now) ends.begun (g.S.Sink.held c.search_from.new.log) ends.header ends.rest
