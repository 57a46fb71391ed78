-- Threads are shown one after another.
use Rattle.std.proofs.Common.{arith, sym}
use Rattle.orders.proofs.Said.{not_true}
use Rattle.shown_outcome.proofs.Outcomes.{all_shown, first_unshown, shown_further}
use Rattle.shown_outcome.proofs.check.check_outcome.Goals as goal

pub returns-then-not-branch : goal.returns-then-not-branch
returns-then-not-branch c =
    first_unshown c.args.orders.now.flat.program.now c.args.orders.now.flat.execution.now c.args.outcome.now c.len-at-end.ensures.kept c.loop-at.at c.in-Some.part.now (sym c.in-Some.ensures.value) c.loop-at.invariant
    (λ shown. not_true c.in_ok-is_shown.field-0 c.if-not-branch.true (c.in_ok-is_shown.ensures.1 shown))

pub loop-at-preserved : goal.loop-at-preserved
loop-at-preserved c =
    shown_further c.args.orders.now.flat.program.now c.args.orders.now.flat.execution.now c.args.outcome.now c.loop-at.at c.in-Some.part.now (sym c.in-Some.ensures.value) c.loop-at.invariant (c.in_ok-is_shown.ensures.0 c.if-not-branch.false)

pub returns : goal.returns
returns c = all_shown c.args.orders.now.flat.program.now c.args.orders.now.flat.execution.now c.args.outcome.now c.loop-at.at (omega (arith, c.loop-at-test.false)) c.loop-at.invariant
