use Rattle.refutation_check.proofs.HintLaws.{false-no_unit}
use Rattle.refutation_check.proofs.hints.unit_of_hint.Goals as goal

pub returns-in-Falsified : goal.returns-in-Falsified
returns-in-Falsified c =
    (c.in-Some.clause.now, c.in-Some.ensures, false-no_unit c.args.marks.now c.in-Some.clause.now (rw c.in-Falsified.is at c.judge.ensures))
