use Rattle.std.proofs.Common.{◌++◌, ◌∙◌, ap, sym}
use Rattle.std.proofs.lemmas.Result.{err_from_is_err_and}
use Rattle.texts.specs.SevenBits.{seven_bits}
use Rattle.var_names.specs.LiteralText.{literal_bytes}
use Rattle.refutation_lines.specs.LineText.{counted}
use Rattle.refutation_items.specs.Parts.{LacksNumber}
use Rattle.refutation_items.proofs.Refusing.{refused-behind, refused-first, takes-then}
use Rattle.refutation_steps.specs.Tables.{ready, TableValue}
use Rattle.bytes_check.specs.Items.{IsWrongClause}
use Rattle.bytes_check.specs.Taken.{AreWrongHints, LacksLiterals}
use Rattle.bytes_check.proofs.ClauseLaws.{hint-count-missing, hints-wrong-behind, literal-count-missing, literals-missing, literals-taken, whole-clause}
use Rattle.bytes_check.proofs.clause.check_clause.Goals as goal

pub returns-in_err-count-clause-refused : goal.returns-in_err-count-clause-refused
returns-in_err-count-clause-refused g c =
    let p = err_from_is_err_and c.from_residual.result c.from_residual.ensures.1 in
    rw (p.1, p.2)
    (refused-first (g.B.Bytes.causes c.args.bytes.now c.take_number.new.bytes) (g.B.Bytes.causes c.args.bytes.now c.take_number.new.bytes) (g.B.Bytes.left c.args.bytes.now)
    LacksNumber (IsWrongClause c.args.table.now.clauses) _ (λ read cause. cause)
    (λ bytes reason lacks. literal-count-missing c.args.table.now.clauses bytes reason lacks) c.in_err-count.ensures.refused)

pub returns-in_err-take_literals-clause-refused : goal.returns-in_err-take_literals-clause-refused
returns-in_err-take_literals-clause-refused g c =
    let p = err_from_is_err_and c.from_residual-in_err-take_literals.result c.from_residual-in_err-take_literals.ensures.1 in
    rw (p.1, p.2)
    (refused-behind (g.B.Bytes.causes c.take_number.new.bytes c.take_literals.new.bytes) (g.B.Bytes.causes c.args.bytes.now c.take_literals.new.bytes)
    (g.B.Bytes.left c.args.bytes.now) (g.B.Bytes.left c.take_number.new.bytes) (seven_bits c.in_ok-count.count) (LacksLiterals c.in_ok-count.count)
    (IsWrongClause c.args.table.now.clauses) _ c.in_ok-count.ensures.taken
    (λ read cause. g.met.B.Bytes.later_cause _ _ _ read c.in_ok-count.ensures.moved c.in_err-take_literals.ensures.moved cause)
    (λ bytes reason lacks. literals-missing c.args.table.now.clauses c.in_ok-count.count bytes reason c.in_ok-count.ensures.few lacks)
    c.in_err-take_literals.ensures.refused)

pub returns-in_err-hints-clause-refused : goal.returns-in_err-hints-clause-refused
returns-in_err-hints-clause-refused g c =
    let literals = c.take_literals.new.table.literals in
    let took = c.in_ok-take_literals.ensures.taken in
    let p = err_from_is_err_and c.from_residual-in_err-hints.result c.from_residual-in_err-hints.ensures.1 in
    rw (p.1, p.2)
    (refused-behind (g.B.Bytes.causes c.take_literals.new.bytes c.take_number-2.new.bytes) (g.B.Bytes.causes c.args.bytes.now c.take_number-2.new.bytes)
    (g.B.Bytes.left c.args.bytes.now) (g.B.Bytes.left c.take_literals.new.bytes) (counted literal_bytes literals) LacksNumber
    (IsWrongClause c.args.table.now.clauses) _
    (literals-taken _ _ _ c.in_ok-count.count literals c.in_ok-count.ensures.taken c.in_ok-take_literals.ensures.taken)
    (λ read cause. g.met.B.Bytes.later_cause _ _ _ read (g.met.B.Bytes.moves_trans _ _ _ c.in_ok-count.ensures.moved c.in_ok-take_literals.ensures.moved)
    c.in_err-hints.ensures.moved cause)
    (λ bytes reason lacks. hint-count-missing c.args.table.now.clauses literals c.in_ok-count.count bytes reason c.in_ok-count.ensures.few took.count_of took.fit
    took.is_clause lacks)
    c.in_err-hints.ensures.refused)

pub returns-in_err-follow_hints-clause-refused : goal.returns-in_err-follow_hints-clause-refused
returns-in_err-follow_hints-clause-refused g c =
    let read = c.take_literals.new.table in
    let took = c.in_ok-take_literals.ensures in
    let p = err_from_is_err_and c.from_residual-in_err-follow_hints.result c.from_residual-in_err-follow_hints.ensures.1 in
    rw (p.1, p.2)
    (refused-behind (g.B.Bytes.causes c.take_number-2.new.bytes c.follow_hints.new.bytes) (g.B.Bytes.causes c.args.bytes.now c.follow_hints.new.bytes)
    (g.B.Bytes.left c.args.bytes.now) (g.B.Bytes.left c.take_number-2.new.bytes) (counted literal_bytes read.literals ++ seven_bits c.in_ok-hints.hints)
    (AreWrongHints c.in_ok-hints.hints read.clauses read.trues) (IsWrongClause c.args.table.now.clauses) _
    (takes-then _ _ _ (counted literal_bytes read.literals) (seven_bits c.in_ok-hints.hints)
    (literals-taken _ _ _ c.in_ok-count.count read.literals c.in_ok-count.ensures.taken took.taken) c.in_ok-hints.ensures.taken)
    (λ why cause. g.met.B.Bytes.later_cause _ _ _ why
    (g.met.B.Bytes.moves_trans _ _ _ (g.met.B.Bytes.moves_trans _ _ _ c.in_ok-count.ensures.moved took.moved) c.in_ok-hints.ensures.moved)
    c.in_err-follow_hints.ensures.moved cause)
    (λ bytes reason wrong. hints-wrong-behind c.args.table.now.clauses read.clauses read.literals read.trues c.in_ok-count.count c.in_ok-hints.hints
    c.in_ok-count.ensures.few c.in_ok-hints.ensures.few took.clauses took.trues took.taken.count_of took.taken.fit took.taken.is_clause bytes reason wrong)
    c.in_err-follow_hints.ensures.refused)

pub returns-clause-ready : goal.returns-clause-ready
returns-clause-ready g c =
    let is = c.in_ok-empty.ensures.ok in
    is ∙ ap ready (sym (ap (λ (t : TableValue). t.clauses) is))

pub returns-clause-taken : goal.returns-clause-taken
returns-clause-taken g c =
    let read = c.take_literals.new.table in
    let took = c.in_ok-take_literals.ensures in
    let followed = c.in_ok-follow_hints.ensures in
    whole-clause (g.B.Bytes.left c.args.bytes.now) (g.B.Bytes.left c.take_number.new.bytes) (g.B.Bytes.left c.take_literals.new.bytes) (g.B.Bytes.left c.take_number-2.new.bytes)
    (g.B.Bytes.left c.follow_hints.new.bytes) c.in_ok-count.count c.in_ok-hints.hints c.args.table.now.clauses read.clauses c.follow_hints.new.table.clauses
    c.finish_clause.new.self.clauses read.literals c.follow_hints.new.table.literals read.trues c.in_ok-empty.empty
    c.in_ok-count.ensures.taken took.taken took.clauses took.trues c.in_ok-hints.ensures.taken followed.taken followed.clauses followed.literals
    (ap (λ (t : TableValue). t.clauses) c.in_ok-empty.ensures.ok) c.in_ok-empty.ensures.empty
