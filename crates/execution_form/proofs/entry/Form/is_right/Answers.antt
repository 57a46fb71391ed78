-- The first test that fails, or the last one.
use Rattle.execution_form.specs.Facts.{stated, stated_given}
use Rattle.execution_form.specs.Form.{IsRightEntry}
use Rattle.execution_form.specs.Needs.{seen_of, volatile_of, plain_of}
use Rattle.execution_form.proofs.Passing.{fails_at, meets_so, misses_so}
use Rattle.execution_form.proofs.entry.Form.is_right.Goals as goal

pub returns-then-not-meets : goal.returns-then-not-meets
returns-then-not-meets c = fails_at c.meets.result _ (IsRightEntry c.args.self.now.program.now c.args.self.now.execution.now c.args.entry.now)
    (meets_so c.args.self.now.program.now c.args.self.now.execution.now (stated c.args.self.now.facts) (stated_given c.seen.result) (seen_of c.args.entry.now) c.meets.result c.requires.facts c.seen.ensures c.meets.ensures)
    c.if-not-meets.true (λ right. right.write)

pub returns-then-not-meets-2 : goal.returns-then-not-meets-2
returns-then-not-meets-2 c = fails_at c.meets-2.result _ (IsRightEntry c.args.self.now.program.now c.args.self.now.execution.now c.args.entry.now)
    (meets_so c.args.self.now.program.now c.args.self.now.execution.now (stated c.args.self.now.facts) (stated_given c.volatile.result) (volatile_of c.args.entry.now.action) c.meets-2.result c.requires.facts c.volatile.ensures c.meets-2.ensures)
    c.if-not-meets-2.true (λ right. right.volatile)

pub returns-then-not-misses : goal.returns-then-not-misses
returns-then-not-misses c = fails_at c.misses.result _ (IsRightEntry c.args.self.now.program.now c.args.self.now.execution.now c.args.entry.now)
    (misses_so c.args.self.now.program.now c.args.self.now.execution.now (stated c.args.self.now.facts) (stated_given c.plain.result) (plain_of c.args.entry.now.action) c.misses.result c.requires.facts c.plain.ensures c.misses.ensures)
    c.if-not-misses.true (λ right. right.plain)
