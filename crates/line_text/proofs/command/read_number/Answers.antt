use Rattle.std.proofs.Common.{arith}
use Rattle.line_text.proofs.WordLaws.{number-differs}
use Rattle.line_text.proofs.command.read_number.Goals as goal
use Rattle.line_text.proofs.command.read_number.Goals.{then-number-least-via-then-number-least, then-number-least-via-else-number-least+then-number-most}

pub returns-then-number-least : goal.returns-then-number-least
returns-then-number-least c =
    number-differs c.args.least c.args.most c.in_ok-number.number c.args.text.now (omega arith) c.ranges.most.fits c.in_ok-number.ensures
    (λ low high. elim c.then-number-least.branch
    [ then-number-least-via-then-number-least w ↦ omega arith | then-number-least-via-else-number-least+then-number-most w ↦ omega arith ])
