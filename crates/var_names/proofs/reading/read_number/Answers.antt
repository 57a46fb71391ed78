use Rattle.std.proofs.Common.{◌≡◌, ◌∙◌, sym, subst, arith}
use Rattle.std.specs.Str.{IsUtf8}
use Rattle.std.specs.Fmt.{decimal}
use Rattle.std.proofs.lemmas.Fmt.{IsAscii-decimal}
use Rattle.std.proofs.lemmas.Str.{IsUtf8-from_ascii}
use Rattle.line_text.specs.Fields.{IsPlain}
use Rattle.line_text.proofs.WordLaws.{not_parsed, not_plain, parsed-plain}
use Rattle.var_names.proofs.reading.read_number.Goals as goal

pub returns-then-not-is_plain : goal.returns-then-not-is_plain
returns-then-not-is_plain c =
    not_plain c.args.text.now (λ plain. let passed = c.is_plain.ensures.1 plain in cc (passed, c.if-not-is_plain.true))

pub returns-in-Ok-parse : goal.returns-in-Ok-parse
returns-in-Ok-parse c =
    let words : c.in-Ok.words.now ≡ c.args.text.now = c.in-Ok.ensures.cases.0 in
    let plain : IsPlain c.in-Ok.words.now = subst IsPlain (sym words) (c.is_plain.ensures.0 c.if-not-is_plain.false) in
    (omega (arith, c.in-Ok-parse.ensures.value), sym words ∙ parsed-plain c.parse.result c.in-Ok-parse.number c.in-Ok.words.now plain c.in-Ok-parse.is c.parse.ensures.value.0)

pub returns-in-Err-parse : goal.returns-in-Err-parse
returns-in-Err-parse c = λ number few same.
    let words : c.in-Ok.words.now ≡ c.args.text.now = c.in-Ok.ensures.cases.0 in
    not_parsed c.parse.result c.in-Err-parse.field-0 c.in-Ok.words.now c.in-Err-parse.is c.parse.ensures.value.0 number few (words ∙ same)

pub returns-in-Err : goal.returns-in-Err
returns-in-Err c = λ number few same.
    c.in-Err.ensures.cases.0 (subst IsUtf8 (sym same) (IsUtf8-from_ascii (decimal number) (IsAscii-decimal number few)))
