use Rattle.bytes_check.specs.Items.{IsWrongItem}
use Rattle.bytes_check.proofs.TextLaws.{at-this-line}
use Rattle.bytes_check.proofs.text.check_line.Goals as goal

pub returns-in-Err-clause-refused : goal.returns-in-Err-clause-refused
returns-in-Err-clause-refused g c =
    rw c.at_line.ensures
    (at-this-line (g.B.Bytes.causes c.args.bytes.now c.check_item.new.bytes) (g.B.Bytes.left c.args.bytes.now)
    (IsWrongItem (g.Q.RuleSource.instances c.args.rules.now) c.args.table.now.clauses) c.args.line c.in-Err.refusal c.in-Err.ensures.refused)
