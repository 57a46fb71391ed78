use Rattle.std.proofs.Common.{◌≢◌, arith, refl}
use Rattle.refutation_check.specs.Judged.{IsFalseNumber}
use Rattle.refutation_check.proofs.JudgementLaws.{all-more, all-whole}
use Rattle.refutation_check.proofs.judging.others_false.Goals as goal

pub loop-number-preserved : goal.loop-number-preserved
loop-number-preserved c =
    all-more (λ other. other ≢ c.args.unit → IsFalseNumber c.args.marks.now other) c.args.numbers.now c.loop-number.number-index (omega arith) c.loop-number.invariant
    (c.is_false_or.ensures.0 c.if-not-is_false_or.false)

pub returns : goal.returns
returns c = (
  (λ yes. all-whole (λ other. other ≢ c.args.unit → IsFalseNumber c.args.marks.now other) c.args.numbers.now c.loop-number.number-index (omega arith) c.loop-number.invariant),
  λ all. refl,
)
