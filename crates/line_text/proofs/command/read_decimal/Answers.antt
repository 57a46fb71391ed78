use Rattle.line_text.proofs.WordLaws.{not_parsed, not_plain, parsed-plain}
use Rattle.line_text.proofs.command.read_decimal.Goals as goal

pub returns-then-not-is_plain : goal.returns-then-not-is_plain
returns-then-not-is_plain c =
    not_plain c.args.text.now (λ plain. let passed = c.is_plain.ensures.1 (rw c.as_bytes.ensures.value plain) in cc (passed, c.if-not-is_plain.true))

pub returns-in-Ok : goal.returns-in-Ok
returns-in-Ok c =
    parsed-plain c.parse.result c.in-Ok.number c.args.text.now
    (rw c.as_bytes.ensures.value at (c.is_plain.ensures.0 c.if-not-is_plain.false)) c.in-Ok.is c.parse.ensures.value.0

pub returns-in-Err : goal.returns-in-Err
returns-in-Err c = not_parsed c.parse.result c.in-Err.field-0 c.args.text.now c.in-Err.is c.parse.ensures.value.0
