use Rattle.verdict.proofs.Judged.{forbidden, not_told, shown, told}
use Rattle.verdict.proofs.judge.judge.Goals as goal

pub returns-then-not-shown-clause-judged : goal.returns-then-not-shown-clause-judged
returns-then-not-shown-clause-judged g c =
    forbidden c.args.program.now c.requires.straight c.args.question.now c.in_ok-run.run' c.in_ok-run.ensures.ok c.straight_forbids.ensures
    (not_told c.in_ok-shown.shown c.if-not-shown.true c.in_ok-shown.ensures.ok)

pub returns-in-Ok-clause-judged : goal.returns-in-Ok-clause-judged
returns-in-Ok-clause-judged g c =
    shown c.args.program.now c.requires.straight c.args.question.now c.in_ok-run.run' c.in_ok-run.ensures.ok c.in_ok-sequence.sequence _ c.straight_is_justified.ensures
    c.in_ok-sequence.ensures.ok (told c.in_ok-shown.shown c.if-not-shown.false c.in_ok-shown.ensures.ok) c.in-Ok.ensures.text
