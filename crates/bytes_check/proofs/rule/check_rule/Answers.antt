use Rattle.std.proofs.Common.{◌++◌}
use Rattle.std.proofs.lemmas.Result.{err_from_is_err_and}
use Rattle.texts.specs.SevenBits.{seven_bits}
use Rattle.refutation_items.specs.Parts.{LacksNumber}
use Rattle.refutation_items.proofs.Refusing.{refused-behind, refused-first, takes-then}
use Rattle.bytes_check.specs.Items.{IsWrongRule}
use Rattle.bytes_check.specs.Taken.{LacksArguments}
use Rattle.bytes_check.proofs.RuleLaws.{arguments-missing, count-missing, number-missing, rule-added, rule-refused}
use Rattle.bytes_check.proofs.rule.check_rule.Goals as goal

pub returns-in_err-number-clause-refused : goal.returns-in_err-number-clause-refused
returns-in_err-number-clause-refused g c =
    let p = err_from_is_err_and c.from_residual.result c.from_residual.ensures.1 in
    rw (p.1, p.2)
    (refused-first (g.B.Bytes.causes c.args.bytes.now c.take_number.new.bytes) (g.B.Bytes.causes c.args.bytes.now c.take_number.new.bytes) (g.B.Bytes.left c.args.bytes.now)
    LacksNumber (IsWrongRule (g.Q.RuleSource.instances c.args.rules.now)) _ (λ read cause. cause)
    (λ bytes reason lacks. number-missing (g.Q.RuleSource.instances c.args.rules.now) bytes reason lacks) c.in_err-number.ensures.refused)

pub returns-in_err-count-clause-refused : goal.returns-in_err-count-clause-refused
returns-in_err-count-clause-refused g c =
    let p = err_from_is_err_and c.from_residual-in_err-count.result c.from_residual-in_err-count.ensures.1 in
    rw (p.1, p.2)
    (refused-behind (g.B.Bytes.causes c.take_number.new.bytes c.take_number-2.new.bytes) (g.B.Bytes.causes c.args.bytes.now c.take_number-2.new.bytes)
    (g.B.Bytes.left c.args.bytes.now) (g.B.Bytes.left c.take_number.new.bytes) (seven_bits c.in_ok-number.number)
    LacksNumber (IsWrongRule (g.Q.RuleSource.instances c.args.rules.now)) _ c.in_ok-number.ensures.taken
    (λ read cause. g.met.B.Bytes.later_cause _ _ _ read c.in_ok-number.ensures.moved c.in_err-count.ensures.moved cause)
    (λ bytes reason lacks. count-missing (g.Q.RuleSource.instances c.args.rules.now) c.in_ok-number.number bytes reason c.in_ok-number.ensures.few lacks)
    c.in_err-count.ensures.refused)

pub returns-in_err-args-clause-refused : goal.returns-in_err-args-clause-refused
returns-in_err-args-clause-refused g c =
    let p = err_from_is_err_and c.from_residual-in_err-args.result c.from_residual-in_err-args.ensures.1 in
    rw (p.1, p.2)
    (refused-behind (g.B.Bytes.causes c.take_number-2.new.bytes c.take_arguments.new.bytes) (g.B.Bytes.causes c.args.bytes.now c.take_arguments.new.bytes)
    (g.B.Bytes.left c.args.bytes.now) (g.B.Bytes.left c.take_number-2.new.bytes) (seven_bits c.in_ok-number.number ++ seven_bits c.in_ok-count.count)
    (LacksArguments c.in_ok-count.count) (IsWrongRule (g.Q.RuleSource.instances c.args.rules.now)) _
    (takes-then _ _ _ (seven_bits c.in_ok-number.number) (seven_bits c.in_ok-count.count) c.in_ok-number.ensures.taken c.in_ok-count.ensures.taken)
    (λ read cause. g.met.B.Bytes.later_cause _ _ _ read (g.met.B.Bytes.moves_trans _ _ _ c.in_ok-number.ensures.moved c.in_ok-count.ensures.moved) c.in_err-args.ensures.moved cause)
    (λ bytes reason lacks. arguments-missing (g.Q.RuleSource.instances c.args.rules.now) c.in_ok-number.number c.in_ok-count.count bytes reason c.in_ok-number.ensures.few
    c.in_ok-count.ensures.few lacks)
    c.in_err-args.ensures.refused)

pub returns-in-Ok-clause-added : goal.returns-in-Ok-clause-added
returns-in-Ok-clause-added g c =
    let took = c.in_ok-args.ensures.taken in
    rule-added (g.Q.RuleSource.instances c.args.rules.now) (g.B.Bytes.left c.args.bytes.now) (g.B.Bytes.left c.take_number.new.bytes) (g.B.Bytes.left c.take_number-2.new.bytes)
    (g.B.Bytes.left c.take_arguments.new.bytes) c.in_ok-number.number c.in_ok-count.count c.in_ok-args.args c.rule_of-rule.result
    c.in_ok-number.ensures.few c.in_ok-count.ensures.few
    c.in_ok-number.ensures.taken c.in_ok-count.ensures.taken took
    (c.rule_of-rule.ensures.in_bytes c.in_ok-number.number took.words c.rule_number.ensures took.named)
    c.args.table.now.clauses c.add_named.new.table.clauses c.in-Ok.ensures.added

pub returns-in-Err-clause-refused : goal.returns-in-Err-clause-refused
returns-in-Err-clause-refused g c =
    let took = c.in_ok-args.ensures.taken in
    rule-refused (g.Q.RuleSource.instances c.args.rules.now) (g.B.Bytes.left c.args.bytes.now) (g.B.Bytes.left c.take_number.new.bytes)
    (g.B.Bytes.left c.take_number-2.new.bytes) (g.B.Bytes.left c.take_arguments.new.bytes) c.in_ok-number.number c.in_ok-count.count c.in_ok-args.args c.rule_of-rule.result
    c.in_ok-number.ensures.few c.in_ok-count.ensures.few
    c.in_ok-number.ensures.taken c.in_ok-count.ensures.taken took
    (c.rule_of-rule.ensures.in_bytes c.in_ok-number.number took.words c.rule_number.ensures took.named)
    (g.B.Bytes.causes c.args.bytes.now c.take_arguments.new.bytes) c.in-Err.refusal c.refused.result (g.met.B.Bytes.memory_free _ _) c.refused.ensures c.in-Err.ensures.wrong
