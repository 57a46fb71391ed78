use Rattle.refutation_items.specs.Parts.{LacksHeader}
use Rattle.bytes_check.proofs.TextLaws.{at-this-line}
use Rattle.bytes_check.proofs.text.expect_beginning.Goals as goal

pub returns-in-Err-clause-refused : goal.returns-in-Err-clause-refused
returns-in-Err-clause-refused g c =
    rw c.at_line.ensures
    (at-this-line (g.B.Bytes.causes c.args.bytes.now c.expect_header.new.bytes) (g.B.Bytes.left c.args.bytes.now) (LacksHeader c.args.steps) 1 c.in-Err.refusal
    c.in-Err.ensures.refused)
