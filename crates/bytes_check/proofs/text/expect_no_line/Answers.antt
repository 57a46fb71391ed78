use Rattle.refutation_items.specs.Parts.{GoesOn}
use Rattle.bytes_check.proofs.TextLaws.{at-this-line}
use Rattle.bytes_check.proofs.text.expect_no_line.Goals as goal

pub returns-in-Err-clause-refused : goal.returns-in-Err-clause-refused
returns-in-Err-clause-refused g c =
    rw c.at_line.ensures
    (at-this-line (g.B.Bytes.causes c.args.bytes.now c.expect_end.new.bytes) (g.B.Bytes.left c.args.bytes.now) GoesOn c.args.line c.in-Err.refusal c.in-Err.ensures.refused)
