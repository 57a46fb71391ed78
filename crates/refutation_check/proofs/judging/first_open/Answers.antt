use Rattle.std.proofs.Common.{arith}
use Rattle.refutation_check.specs.Judged.{IsFalseNumber}
use Rattle.refutation_check.proofs.JudgementLaws.{all-more, all-whole}
use Rattle.refutation_check.proofs.judging.first_open.Goals as goal

pub loop-number-preserved : goal.loop-number-preserved
loop-number-preserved c =
    all-more (IsFalseNumber c.args.marks.now) c.args.numbers.now c.loop-number.number-index (omega arith) c.loop-number.invariant
    (c.is_false.ensures.0 c.if-not-is_false.false)

pub returns : goal.returns
returns c = all-whole (IsFalseNumber c.args.marks.now) c.args.numbers.now c.loop-number.number-index (omega arith) c.loop-number.invariant
