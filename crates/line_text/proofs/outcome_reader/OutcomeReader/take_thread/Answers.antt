use Rattle.std.proofs.Common.{arith}
use Rattle.line_text.proofs.TakeLaws.{thread-refused}
use Rattle.line_text.proofs.outcome_reader.OutcomeReader.take_thread.Goals as goal
use Rattle.line_text.proofs.outcome_reader.OutcomeReader.take_thread.Goals.{then-byte-lt48-via-then-byte-lt48, then-byte-lt48-via-else-byte-lt48+then-byte-gt55}

pub returns-then-byte-lt48 : goal.returns-then-byte-lt48
returns-then-byte-lt48 c =
    thread-refused c.args.self.now c.args.byte c.requires.reading c.requires.position
    (λ thread low high same. elim c.then-byte-lt48.branch
    [ then-byte-lt48-via-then-byte-lt48 w ↦ omega arith | then-byte-lt48-via-else-byte-lt48+then-byte-gt55 w ↦ omega arith ])

pub returns-then-thread-self : goal.returns-then-thread-self
returns-then-thread-self c =
    thread-refused c.args.self.now c.args.byte c.requires.reading c.requires.position (λ thread low high same. omega arith)
