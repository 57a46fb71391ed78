use Rattle.std.proofs.Common.{◌++◌, ◌+◌, ◌∷◌, ◌∙◌, [], ap, sym}
use Rattle.std.proofs.lemmas.Result.{err_from_is_err_and}
use Rattle.refutation_lines.specs.LineText.{text_2}
use Rattle.refutation_items.specs.Parts.{GoesOn, LacksHeader}
use Rattle.refutation_steps.specs.Tables.{ready, TableValue}
use Rattle.bytes_check.specs.Items.{IsWrongItem}
use Rattle.bytes_check.specs.Texts.{AtLine, IsFirstFault}
use Rattle.bytes_check.proofs.TextLaws.{goes-on-at, no-header-at, no-lines, not-refuted-behind, not-refuted-first, one-line, refuted, took-all, wrong-item-at}
use Rattle.bytes_check.proofs.text.check_bytes.Goals as goal

pub returns-in_err-expect_beginning-clause-refused : goal.returns-in_err-expect_beginning-clause-refused
returns-in_err-expect_beginning-clause-refused g c =
    let instances = g.Q.RuleSource.instances c.args.rules.now in
    let p = err_from_is_err_and c.from_residual.result c.from_residual.ensures.1 in
    rw (p.1, p.2)
    (not-refuted-first (g.B.Bytes.causes c.args.bytes.now c.expect_beginning.new.bytes) (g.B.Bytes.left c.args.bytes.now) (AtLine 1 (LacksHeader c.args.steps))
    (IsFirstFault instances c.args.steps) _ (λ bytes line reason at. no-header-at instances c.args.steps bytes line reason at) c.in_err-expect_beginning.ensures.refused)

pub loop-line-init : goal.loop-line-init
loop-line-init g c = record {
  sofar = no-lines (g.Q.RuleSource.instances c.args.rules.now) c.args.steps (g.B.Bytes.left c.args.bytes.now) (g.B.Bytes.left c.expect_beginning.new.bytes)
      c.new-table.result.clauses (ap (λ (t : TableValue). t.clauses) c.new-table.ensures) c.in_ok-expect_beginning.ensures.taken;
  ready_still = c.new-table.ensures ∙ ap ready (sym (ap (λ (t : TableValue). t.clauses) c.new-table.ensures));
  moved = c.in_ok-expect_beginning.ensures.moved;
}

pub returns-in_err-empty-clause-refused : goal.returns-in_err-empty-clause-refused
returns-in_err-empty-clause-refused g c =
    let instances = g.Q.RuleSource.instances c.args.rules.now in
    let i = c.loop-line.invariant in
    let p = err_from_is_err_and c.from_residual-in_err-empty.result c.from_residual-in_err-empty.ensures.1 in
    rw (p.1, p.2)
    (not-refuted-behind (g.B.Bytes.causes c.loop-line.bytes c.check_line.new.bytes) (g.B.Bytes.causes c.args.bytes.now c.check_line.new.bytes)
    (g.B.Bytes.left c.args.bytes.now) (g.B.Bytes.left c.loop-line.bytes) (text_2 c.args.steps i.sofar.lines)
    (AtLine c.loop-line.line (IsWrongItem instances c.loop-line.table.clauses)) (IsFirstFault instances c.args.steps) _ i.sofar.taken
    (λ read cause. g.met.B.Bytes.later_cause _ _ _ read i.moved c.in_err-empty.ensures.moved cause)
    (λ bytes at reason wrong. wrong-item-at instances c.args.steps (g.B.Bytes.left c.args.bytes.now) (g.B.Bytes.left c.loop-line.bytes) c.loop-line.line
    c.loop-line.table.clauses i.sofar bytes at reason wrong)
    c.in_err-empty.ensures.refused)

pub returns-in_err-expect_no_line-clause-refused : goal.returns-in_err-expect_no_line-clause-refused
returns-in_err-expect_no_line-clause-refused g c =
    let instances = g.Q.RuleSource.instances c.args.rules.now in
    let i = c.loop-line.invariant in
    let took = c.in_ok-empty.ensures in
    let p = err_from_is_err_and c.from_residual-in_err-expect_no_line.result c.from_residual-in_err-expect_no_line.ensures.1 in
    rw (p.1, p.2)
    (not-refuted-behind (g.B.Bytes.causes c.check_line.new.bytes c.expect_no_line.new.bytes) (g.B.Bytes.causes c.args.bytes.now c.expect_no_line.new.bytes)
    (g.B.Bytes.left c.args.bytes.now) (g.B.Bytes.left c.check_line.new.bytes) (text_2 c.args.steps (i.sofar.lines ++ took.taken.line ∷ []))
    (AtLine (c.loop-line.line + 1) GoesOn) (IsFirstFault instances c.args.steps) _
    (took-all instances c.args.steps (g.B.Bytes.left c.args.bytes.now) (g.B.Bytes.left c.loop-line.bytes) (g.B.Bytes.left c.check_line.new.bytes) c.loop-line.line
    c.loop-line.table.clauses c.check_line.new.table.clauses c.in_ok-empty.empty i.sofar took.taken c.if-empty.true)
    (λ read cause. g.met.B.Bytes.later_cause _ _ _ read (g.met.B.Bytes.moves_trans _ _ _ i.moved took.moved) c.in_err-expect_no_line.ensures.moved cause)
    (λ bytes at reason more. goes-on-at instances c.args.steps (g.B.Bytes.left c.args.bytes.now) (g.B.Bytes.left c.loop-line.bytes) (g.B.Bytes.left c.check_line.new.bytes)
    c.loop-line.line c.loop-line.table.clauses c.check_line.new.table.clauses c.in_ok-empty.empty i.sofar took.taken c.if-empty.true bytes at reason more)
    c.in_err-expect_no_line.ensures.refused)

pub returns-then-empty-clause-refuted : goal.returns-then-empty-clause-refuted
returns-then-empty-clause-refuted g c =
    let i = c.loop-line.invariant in
    let took = c.in_ok-empty.ensures in
    refuted (g.Q.RuleSource.instances c.args.rules.now) c.args.steps (g.B.Bytes.left c.args.bytes.now) (g.B.Bytes.left c.loop-line.bytes)
    (g.B.Bytes.left c.check_line.new.bytes) c.loop-line.line c.loop-line.table.clauses c.check_line.new.table.clauses c.in_ok-empty.empty i.sofar took.taken c.if-empty.true
    (g.B.Bytes.left c.expect_no_line.new.bytes) c.in_ok-expect_no_line.ensures.left c.in_ok-expect_no_line.ensures.end

pub loop-line-preserved : goal.loop-line-preserved
loop-line-preserved g c =
    let i = c.loop-line.invariant in
    let took = c.in_ok-empty.ensures in
    record {
      sofar = one-line (g.Q.RuleSource.instances c.args.rules.now) c.args.steps (g.B.Bytes.left c.args.bytes.now) (g.B.Bytes.left c.loop-line.bytes)
          (g.B.Bytes.left c.check_line.new.bytes) c.loop-line.line c.loop-line.table.clauses c.check_line.new.table.clauses c.in_ok-empty.empty i.sofar took.taken c.if-empty.false;
      ready_still = took.ready;
      moved = g.met.B.Bytes.moves_trans _ _ _ i.moved took.moved;
    }

pub returns-in_err-expect_no_line-clause-moved : goal.returns-in_err-expect_no_line-clause-moved
returns-in_err-expect_no_line-clause-moved g c =
    g.met.B.Bytes.moves_trans _ _ _ (g.met.B.Bytes.moves_trans _ _ _ c.loop-line.invariant.moved c.in_ok-empty.ensures.moved) c.in_err-expect_no_line.ensures.moved

pub returns-then-empty-clause-moved : goal.returns-then-empty-clause-moved
returns-then-empty-clause-moved g c =
    g.met.B.Bytes.moves_trans _ _ _ (g.met.B.Bytes.moves_trans _ _ _ c.loop-line.invariant.moved c.in_ok-empty.ensures.moved) c.in_ok-expect_no_line.ensures.moved
