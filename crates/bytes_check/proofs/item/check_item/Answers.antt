use Rattle.std.proofs.Common.{◌∷◌, [], refl}
use Rattle.std.proofs.lemmas.Result.{err_from_is_err_and}
use Rattle.refutation_items.specs.declared.refusal.Reason.TheVariants.{Form}
use Rattle.refutation_items.proofs.Refusing.{refused-behind, told-taken}
use Rattle.bytes_check.specs.Items.{IsWrongClause, IsWrongDeletion, IsWrongItem, IsWrongRule}
use Rattle.bytes_check.proofs.ItemLaws.{head-taken, item-of-clause, item-of-deletion, item-of-rule, nothing-left, wrong-clause, wrong-deletion, wrong-head, wrong-rule}
use Rattle.bytes_check.proofs.item.check_item.Goals as goal

pub returns-in_default-clause-refused : goal.returns-in_default-clause-refused
returns-in_default-clause-refused g c =
    nothing-left (g.Q.RuleSource.instances c.args.rules.now) c.args.table.now.clauses (g.B.Bytes.left c.args.bytes.now) (c.in_ok-head.ensures.end c.in_default.is)

pub returns-in_err-check_rule-clause-refused : goal.returns-in_err-check_rule-clause-refused
returns-in_err-check_rule-clause-refused g c =
    let instances = g.Q.RuleSource.instances c.args.rules.now in
    let p = err_from_is_err_and c.from_residual-in_err-check_rule.result c.from_residual-in_err-check_rule.ensures.1 in
    rw (p.1, p.2)
    (refused-behind (g.B.Bytes.causes c.take_byte.new.bytes c.check_rule.new.bytes) (g.B.Bytes.causes c.args.bytes.now c.check_rule.new.bytes)
    (g.B.Bytes.left c.args.bytes.now) (g.B.Bytes.left c.take_byte.new.bytes) (1 ∷ []) (IsWrongRule instances) (IsWrongItem instances c.args.table.now.clauses) _
    (head-taken _ _ _ c.in-Some.head 1 c.in_ok-head.ensures.taken c.in-Some.is c.if-head-eq1.true)
    (λ read cause. g.met.B.Bytes.later_cause _ _ _ read c.in_ok-head.ensures.moved c.in_err-check_rule.ensures.moved cause)
    (λ bytes reason wrong. wrong-rule instances c.args.table.now.clauses bytes reason wrong) c.in_err-check_rule.ensures.refused)

pub returns-in_err-empty-clause-refused : goal.returns-in_err-empty-clause-refused
returns-in_err-empty-clause-refused g c =
    let instances = g.Q.RuleSource.instances c.args.rules.now in
    let p = err_from_is_err_and c.from_residual-in_err-empty.result c.from_residual-in_err-empty.ensures.1 in
    rw (p.1, p.2)
    (refused-behind (g.B.Bytes.causes c.take_byte.new.bytes c.check_clause.new.bytes) (g.B.Bytes.causes c.args.bytes.now c.check_clause.new.bytes)
    (g.B.Bytes.left c.args.bytes.now) (g.B.Bytes.left c.take_byte.new.bytes) (2 ∷ []) (IsWrongClause c.args.table.now.clauses) (IsWrongItem instances c.args.table.now.clauses) _
    (head-taken _ _ _ c.in-Some.head 2 c.in_ok-head.ensures.taken c.in-Some.is c.if-head-eq2.true)
    (λ read cause. g.met.B.Bytes.later_cause _ _ _ read c.in_ok-head.ensures.moved c.in_err-empty.ensures.moved cause)
    (λ bytes reason wrong. wrong-clause instances c.args.table.now.clauses bytes reason wrong) c.in_err-empty.ensures.refused)

pub returns-in_err-check_deletion-clause-refused : goal.returns-in_err-check_deletion-clause-refused
returns-in_err-check_deletion-clause-refused g c =
    let instances = g.Q.RuleSource.instances c.args.rules.now in
    let p = err_from_is_err_and c.from_residual-in_err-check_deletion.result c.from_residual-in_err-check_deletion.ensures.1 in
    rw (p.1, p.2)
    (refused-behind (g.B.Bytes.causes c.take_byte.new.bytes c.check_deletion.new.bytes) (g.B.Bytes.causes c.args.bytes.now c.check_deletion.new.bytes)
    (g.B.Bytes.left c.args.bytes.now) (g.B.Bytes.left c.take_byte.new.bytes) (3 ∷ []) (IsWrongDeletion c.args.table.now.clauses) (IsWrongItem instances c.args.table.now.clauses) _
    (head-taken _ _ _ c.in-Some.head 3 c.in_ok-head.ensures.taken c.in-Some.is c.if-head-eq3.true)
    (λ read cause. g.met.B.Bytes.later_cause _ _ _ read c.in_ok-head.ensures.moved c.in_err-check_deletion.ensures.moved cause)
    (λ bytes reason wrong. wrong-deletion instances c.args.table.now.clauses bytes reason wrong) c.in_err-check_deletion.ensures.refused)

pub returns-then-head-eq1-clause-taken : goal.returns-then-head-eq1-clause-taken
returns-then-head-eq1-clause-taken g c =
    item-of-rule (g.Q.RuleSource.instances c.args.rules.now) (g.B.Bytes.left c.args.bytes.now) (g.B.Bytes.left c.take_byte.new.bytes) (g.B.Bytes.left c.check_rule.new.bytes)
    c.args.table.now.clauses c.check_rule.new.table.clauses
    (head-taken _ _ _ c.in-Some.head 1 c.in_ok-head.ensures.taken c.in-Some.is c.if-head-eq1.true) c.in_ok-check_rule.ensures.added

pub returns-then-head-eq2-clause-taken : goal.returns-then-head-eq2-clause-taken
returns-then-head-eq2-clause-taken g c =
    item-of-clause (g.Q.RuleSource.instances c.args.rules.now) (g.B.Bytes.left c.args.bytes.now) (g.B.Bytes.left c.take_byte.new.bytes)
    (g.B.Bytes.left c.check_clause.new.bytes) c.args.table.now.clauses c.check_clause.new.table.clauses c.in_ok-empty.empty
    (head-taken _ _ _ c.in-Some.head 2 c.in_ok-head.ensures.taken c.in-Some.is c.if-head-eq2.true) c.in_ok-empty.ensures.taken

pub returns-then-head-eq3-clause-taken : goal.returns-then-head-eq3-clause-taken
returns-then-head-eq3-clause-taken g c =
    item-of-deletion (g.Q.RuleSource.instances c.args.rules.now) (g.B.Bytes.left c.args.bytes.now) (g.B.Bytes.left c.take_byte.new.bytes)
    (g.B.Bytes.left c.check_deletion.new.bytes) c.args.table.now.clauses c.check_deletion.new.table.clauses
    (head-taken _ _ _ c.in-Some.head 3 c.in_ok-head.ensures.taken c.in-Some.is c.if-head-eq3.true) c.in_ok-check_deletion.ensures.taken

pub returns-clause-refused : goal.returns-clause-refused
returns-clause-refused g c =
    let instances = g.Q.RuleSource.instances c.args.rules.now in
    told-taken (g.B.Bytes.left c.args.bytes.now) (g.B.Bytes.left c.take_byte.new.bytes) (c.in-Some.head ∷ []) (λ bytes. IsWrongItem instances c.args.table.now.clauses bytes Form)
    (head-taken _ _ _ c.in-Some.head c.in-Some.head c.in_ok-head.ensures.taken c.in-Some.is refl)
    (λ bytes. wrong-head instances c.args.table.now.clauses c.in-Some.head bytes c.if-head-eq1.false c.if-head-eq2.false c.if-head-eq3.false)
