use Rattle.std.proofs.Common.{arith}
use Rattle.line_text.proofs.TakeLaws.{after_minus-refused, after_minus-taken}
use Rattle.line_text.proofs.outcome_reader.OutcomeReader.take_after_minus.Goals as goal
use Rattle.line_text.proofs.outcome_reader.OutcomeReader.take_after_minus.Goals.{then-byte-lt49-via-then-byte-lt49, then-byte-lt49-via-else-byte-lt49+then-byte-gt57}

pub returns-then-byte-lt49 : goal.returns-then-byte-lt49
returns-then-byte-lt49 c =
    after_minus-refused c.args.self.now c.args.byte c.requires.reading c.requires.position
    (λ low high. elim c.then-byte-lt49.branch
    [ then-byte-lt49-via-then-byte-lt49 w ↦ omega arith | then-byte-lt49-via-else-byte-lt49+then-byte-gt57 w ↦ omega arith ])

pub returns : goal.returns
returns c = after_minus-taken c.args.self.now c.args.byte c.from.result c.requires.reading c.requires.position (omega arith) (omega arith) (omega arith)
