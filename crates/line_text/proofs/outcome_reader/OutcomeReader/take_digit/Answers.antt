use Rattle.std.proofs.Common.{arith}
use Rattle.line_text.proofs.TakeLaws.{digit-refused, digit-taken}
use Rattle.line_text.proofs.outcome_reader.OutcomeReader.take_digit.Goals as goal

pub returns-then-magnitude-eq0 : goal.returns-then-magnitude-eq0
returns-then-magnitude-eq0 c =
    digit-refused c.args.self.now c.args.negative c.args.magnitude c.args.byte c.requires.reading c.requires.position c.requires.low c.requires.high
    (λ some low. omega arith)

pub returns-then-grown-magnitude_limit : goal.returns-then-grown-magnitude_limit
returns-then-grown-magnitude_limit c =
    digit-refused c.args.self.now c.args.negative c.args.magnitude c.args.byte c.requires.reading c.requires.position c.requires.low c.requires.high
    (λ some low. let limit = rw (← c.magnitude_limit.ensures) at low in omega (arith, limit))

pub returns : goal.returns
returns c = digit-taken c.args.self.now c.args.negative c.args.magnitude c.args.byte _ c.requires.reading c.requires.position c.requires.low c.requires.high (omega arith) (omega arith) (rw (← c.magnitude_limit.ensures) (omega arith))
