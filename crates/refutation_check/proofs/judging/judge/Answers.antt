use Rattle.refutation_check.proofs.JudgementLaws.{true-one, two-open}
use Rattle.refutation_check.proofs.judging.judge.Goals as goal

pub returns-then-is_marked : goal.returns-then-is_marked
returns-then-is_marked c =
    true-one c.args.marks.now c.args.numbers.now c.in-Some.unit c.in-Some.ensures.0 c.in-Some.ensures.1 (c.is_marked.ensures.0 c.if-is_marked.true)

pub returns-then-not-others_false : goal.returns-then-not-others_false
returns-then-not-others_false c =
    two-open c.args.marks.now c.args.numbers.now c.in-Some.unit c.in-Some.ensures.0 c.in-Some.ensures.1
    (λ all. let yes = c.others_false.ensures.1 all in cc (yes, c.if-not-others_false.true))
