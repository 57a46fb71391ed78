use Rattle.var_names.proofs.ByteLaws.{no-family, no-literal-arguments, no-literal-variable, read-literal-bytes}
use Rattle.var_names.proofs.byte_reading.read_lit_bytes.Goals as goal

pub returns-in_err-family : goal.returns-in_err-family
returns-in_err-family c =
    rw c.from_residual-in_err-family.ensures
    (no-family c.args.bytes.now c.in_ok-first.rest.now c.in_ok-first.first.now c.in_ok-first.ensures.cases.0 c.in_err-family.ensures)

pub returns-in_err-args : goal.returns-in_err-args
returns-in_err-args c =
    rw c.from_residual-in_err-args.ensures
    (no-literal-arguments c.args.bytes.now c.in_ok-first.rest.now c.in_ok-first.first.now c.in_ok-family.family c.in_ok-family.positive
    c.in_ok-first.ensures.cases.0 c.in_ok-family.ensures (rw c.arity.ensures at c.in_err-args.ensures))

pub returns-in_err-var : goal.returns-in_err-var
returns-in_err-var c =
    rw c.from_residual-in_err-var.ensures
    (no-literal-variable c.args.bytes.now c.in_ok-first.rest.now c.in_ok-first.first.now c.in_ok-family.family c.in_ok-family.positive
    c.in_ok-first.ensures.cases.0 c.in_ok-family.ensures c.in_ok-args.args c.in_ok-args.len
    (rw (c.arity.ensures, c.new.ensures) at c.in_ok-args.ensures) c.in_err-var.ensures)

pub returns : goal.returns
returns c =
    rw c.in_ok-var.ensures.1
    (read-literal-bytes c.args.bytes.now c.in_ok-first.rest.now c.in_ok-first.first.now c.in_ok-family.family c.in_ok-family.positive
    c.in_ok-first.ensures.cases.0 c.in_ok-family.ensures c.in_ok-args.args c.in_ok-args.len c.in_ok-var.ensures.0
    (rw (c.arity.ensures, c.new.ensures) at c.in_ok-args.ensures))
