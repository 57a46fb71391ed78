use Rattle.refutation_items.proofs.Fronts.{lacks-number}
use Rattle.refutation_items.proofs.parts.take_number.Goals as goal

pub returns-in_default-clause-refused : goal.returns-in_default-clause-refused
returns-in_default-clause-refused g c =
    lacks-number c.peek.result.now (g.B.Bytes.left c.args.bytes.now) (g.B.Bytes.left c.want.new.self) c.want.ensures.left
    (rw c.peek.ensures c.in_ok-want.ensures.front) c.in_default.ensures
