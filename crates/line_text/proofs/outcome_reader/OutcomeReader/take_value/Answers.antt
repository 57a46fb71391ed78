use Rattle.std.proofs.Common.{arith}
use Rattle.line_text.proofs.TakeLaws.{value-closed, value-refused, value-taken}
use Rattle.line_text.proofs.outcome_reader.OutcomeReader.take_value.Goals as goal

pub returns-in_default : goal.returns-in_default
returns-in_default c = value-refused c.args.self.now c.args.byte c.requires.reading c.requires.position (omega arith) (λ digit. omega arith) (λ semicolon none low. omega arith)

pub returns-in_default-2 : goal.returns-in_default-2
returns-in_default-2 c = value-refused c.args.self.now c.args.byte c.requires.reading c.requires.position (omega arith) (λ digit. omega arith) (λ semicolon none low. omega arith)

pub returns-in_default-3 : goal.returns-in_default-3
returns-in_default-3 c = value-refused c.args.self.now c.args.byte c.requires.reading c.requires.position (omega arith) (λ digit. omega arith) (λ semicolon none low. omega arith)

pub returns-in_default-4 : goal.returns-in_default-4
returns-in_default-4 c = value-refused c.args.self.now c.args.byte c.requires.reading c.requires.position (omega arith) (λ digit. omega arith) (λ semicolon none low. omega arith)

pub returns-in-59 : goal.returns-in-59
returns-in-59 c = value-closed c.args.self.now c.args.byte c.requires.reading c.requires.position (omega arith) (omega arith) (omega arith)

pub returns-in-48-to-57 : goal.returns-in-48-to-57
returns-in-48-to-57 c = value-taken c.args.self.now c.args.byte c.from.result c.requires.reading c.requires.position (omega arith) (omega arith) (omega arith)
