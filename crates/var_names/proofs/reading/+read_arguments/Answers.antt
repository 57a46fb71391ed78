use Rattle.var_names.proofs.ReadingLaws.{arguments-then, filled, no-arguments}
use Rattle.var_names.proofs.reading.+read_arguments.Goals as goal

pub returns-in_err-arg : goal.returns-in_err-arg
returns-in_err-arg t c =
    rw c.from_residual.ensures (no-arguments c.args.text.now c.args.args (filled c.args.text.now c.is_empty.result c.is_empty.ensures c.if-is_empty.false) c.in_err-arg.ensures)

pub returns : goal.returns
returns t c =
    arguments-then c.args.text.now c.in_ok-arg.rest.now c.args.args c.in_ok-arg.arg c.read_arguments.result
    (filled c.args.text.now c.is_empty.result c.is_empty.ensures c.if-is_empty.false) c.in_ok-arg.ensures (rw c.push.ensures at c.read_arguments.ensures)
