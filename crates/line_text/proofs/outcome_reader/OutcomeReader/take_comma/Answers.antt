use Rattle.std.proofs.Common.{arith}
use Rattle.line_text.proofs.TakeLaws.{behind-refused, number-limit, number-takes, value-pushed, comma-taken}
use Rattle.line_text.proofs.outcome_reader.OutcomeReader.take_comma.Goals as goal

pub returns-then-self-ge65534 : goal.returns-then-self-ge65534
returns-then-self-ge65534 c =
    behind-refused c.args.self.now c.args.negative c.args.magnitude 44 c.requires.reading c.requires.position
    (λ digit. omega (arith, digit)) (λ comma few. omega arith) (λ semicolon low. omega arith)

pub value-requires : goal.value-requires
value-requires c = number-takes c.args.self.now c.args.negative c.args.magnitude c.requires.reading c.requires.position

pub returns : goal.returns
returns c = comma-taken c.args.self.now c.args.negative c.args.magnitude _ c.requires.reading c.requires.position
    (value-pushed _ _ c.args.negative c.args.magnitude c.signed.result
    (number-limit c.args.self.now c.args.negative c.args.magnitude c.requires.reading c.requires.position) c.signed.ensures c.in_ok-value.ensures.ok)
    (omega arith)
