use Rattle.std.proofs.Common.{arith}
use Rattle.line_text.proofs.TakeLaws.{no-end, number-end, number-limit, number-takes, value-pushed}
use Rattle.line_text.proofs.outcome_reader.OutcomeReader.finish.Goals as goal
use Rattle.line_text.proofs.outcome_reader.OutcomeReader.finish.Goals.{in_default-via-in-AtValue+else-count-eq0, in_default-via-in_default}

pub value-requires : goal.value-requires
value-requires c = number-takes c.args.self c.in-InNumber.negative c.in-InNumber.magnitude c.requires c.in-InNumber.is

pub returns-in_ok-value-in-InNumber : goal.returns-in_ok-value-in-InNumber
returns-in_ok-value-in-InNumber c =
    number-end c.args.self c.in-InNumber.negative c.in-InNumber.magnitude _ c.requires c.in-InNumber.is
    (value-pushed _ _ c.in-InNumber.negative c.in-InNumber.magnitude c.signed.result
    (number-limit c.args.self c.in-InNumber.negative c.in-InNumber.magnitude c.requires c.in-InNumber.is) c.signed.ensures
    c.in_ok-value-in-InNumber.ensures.ok)

pub returns-in_default : goal.returns-in_default
returns-in_default c =
    no-end c.args.self c.requires
    (λ at. elim c.in_default.branch
    [ in_default-via-in-AtValue+else-count-eq0 w ↦ omega (arith, w.if-count-eq0.false) | in_default-via-in_default w ↦ absurd (w.in_default.not-AtValue at) ])
    (λ negative m at. elim c.in_default.branch
    [ in_default-via-in-AtValue+else-count-eq0 w ↦ (let here = w.in-AtValue.is in cc (here, at)) | in_default-via-in_default w ↦ w.in_default.not-InNumber negative m at ])
