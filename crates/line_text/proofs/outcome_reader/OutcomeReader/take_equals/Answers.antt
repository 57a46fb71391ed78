use Rattle.std.proofs.Common.{arith}
use Rattle.line_text.proofs.TakeLaws.{equals-refused, equals-taken}
use Rattle.line_text.proofs.outcome_reader.OutcomeReader.take_equals.Goals as goal

pub returns-then-byte-ne61 : goal.returns-then-byte-ne61
returns-then-byte-ne61 c =
    equals-refused c.args.self.now c.args.thread c.args.byte c.requires.reading c.requires.position (omega arith)

pub returns : goal.returns
returns c =
    equals-taken c.args.self.now c.args.thread c.args.byte _ c.requires.reading c.requires.position (omega arith) c.in_ok-name.ensures.ok
