use Rattle.refutation_check.proofs.HintLaws.{unit-not_false}
use Rattle.refutation_check.proofs.hints.last_hint.Goals as goal

pub returns-in-Unit : goal.returns-in-Unit
returns-in-Unit c =
    (c.in-Some.clause.now, c.in-Some.ensures, unit-not_false c.args.marks.now c.in-Some.clause.now c.in-Unit.field-0 (rw c.in-Unit.is at c.judge.ensures))
