use Rattle.std.proofs.lemmas.List.{take_rest}
use Rattle.var_names.proofs.ByteLaws.{no-argument, no-more, no-number, read-more}
use Rattle.var_names.proofs.byte_reading.+read_arguments.Goals as goal

pub returns-in_err-number : goal.returns-in_err-number
returns-in_err-number t c = rw c.from_residual.ensures (no-number c.args.bytes.now c.args.count c.if-count-eq0.false c.in_err-number.ensures)

pub returns-in_err-argument_of : goal.returns-in_err-argument_of
returns-in_err-argument_of t c =
    rw c.from_residual-in_err-argument_of.ensures
    (no-argument c.args.bytes.now c.in_ok-number.number c.in_ok-number.len c.in_ok-number.ensures c.args.count c.if-count-eq0.false c.in_err-argument_of.ensures)

pub returns-in_err-all : goal.returns-in_err-all
returns-in_err-all t c =
    rw c.from_residual-in_err-all.ensures
    (no-more c.args.bytes.now c.in_ok-number.number c.in_ok-number.len c.in_ok-number.ensures c.args.count c.if-count-eq0.false
    (rw (take_rest c.args.bytes.now c.in_ok-number.len) at c.in_err-all.ensures))

pub returns : goal.returns
returns t c =
    read-more c.args.bytes.now c.in_ok-number.number c.in_ok-number.len c.in_ok-number.ensures c.args.count c.args.args c.in_ok-all.all
    c.in_ok-argument_of.field-0 c.in_ok-all.more c.if-count-eq0.false c.in_ok-argument_of.ensures.0 c.in_ok-argument_of.ensures.1
    (rw (take_rest c.args.bytes.now c.in_ok-number.len, c.push.ensures) at c.in_ok-all.ensures)
