use Rattle.std.proofs.Common.{arith}
use Rattle.line_text.proofs.TakeLaws.{behind-refused}
use Rattle.line_text.proofs.outcome_reader.OutcomeReader.take_in_number.Goals as goal

pub returns-in_default : goal.returns-in_default
returns-in_default c =
    behind-refused c.args.self.now c.args.negative c.args.magnitude c.args.byte c.requires.reading c.requires.position
    (λ digit. omega (arith, digit)) (λ comma few. omega arith) (λ semicolon low. omega arith)

pub returns-in_default-2 : goal.returns-in_default-2
returns-in_default-2 c =
    behind-refused c.args.self.now c.args.negative c.args.magnitude c.args.byte c.requires.reading c.requires.position
    (λ digit. omega (arith, digit)) (λ comma few. omega arith) (λ semicolon low. omega arith)
