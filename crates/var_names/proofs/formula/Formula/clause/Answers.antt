use Rattle.std.proofs.Common.{◌≡◌, ◌<◌, subst, List, length, get_or, refl}
use Rattle.std.proofs.lemmas.Option.{slice_get_read}
use Rattle.var_names.specs.declared.formula.NumberedClause.{NumberedClause}
use Rattle.var_names.proofs.NumberedLaws.{named-at}
use Rattle.var_names.proofs.formula.Formula.clause.Goals as goal

pub returns-clause-numbers : goal.returns-clause-numbers
returns-clause-numbers c =
    let read = c.in_ok-get.ensures.lookup in
    let at = c.args.at in
    let inside = c.self.inside in
    let clause : NumberedClause = c.in_ok-get.field-0.now in
    let found : (clause ≡ get_or inside.clauses.items at clause) × (at < length inside.clauses.items) =
    subst (λ (cs : List NumberedClause). (clause ≡ get_or cs at clause) × (at < length cs)) c.deref.ensures.value (read.1, read.3.0) in
    rw (← c.self.view_is, c.as_slice.ensures)
    (named-at inside.steps inside.variables.keys inside.clauses.items at clause c.self.invariant
    (slice_get_read inside.clauses.items (length inside.clauses.items) at clause refl found.1 found.0) found.1)
