use Rattle.std.proofs.lemmas.List.{take_rest}
use Rattle.var_names.proofs.LiteralLaws.{no-arguments, no-family, no-variable}
use Rattle.var_names.proofs.reading.read_lit.Goals as goal

pub returns-in_err-family : goal.returns-in_err-family
returns-in_err-family c =
    rw c.from_residual-in_err-family.ensures
    (no-family c.args.text.now c.in_ok-sign.rest.now c.in_ok-sign.sign.now c.word_end-end.result c.in_ok-sign.ensures.cases.0
    c.word_end-end.ensures.word c.word_end-end.ensures.rest c.in_err-family.ensures)

pub returns-in_err-args : goal.returns-in_err-args
returns-in_err-args c =
    rw c.from_residual-in_err-args.ensures
    (no-arguments c.args.text.now c.in_ok-sign.rest.now c.in_ok-sign.sign.now c.word_end-end.result c.in_ok-sign.ensures.cases.0
    c.word_end-end.ensures.word c.word_end-end.ensures.rest (rw (c.new.ensures, take_rest c.in_ok-sign.rest.now c.word_end-end.result) at c.in_err-args.ensures))

pub returns-in_err-var : goal.returns-in_err-var
returns-in_err-var c =
    rw c.from_residual-in_err-var.ensures
    (no-variable c.args.text.now c.in_ok-sign.rest.now c.in_ok-sign.sign.now c.word_end-end.result c.in_ok-sign.ensures.cases.0
    c.word_end-end.ensures.word c.word_end-end.ensures.rest c.in_ok-family.family c.in_ok-args.args c.in_ok-family.ensures
    (rw (c.new.ensures, take_rest c.in_ok-sign.rest.now c.word_end-end.result) at c.in_ok-args.ensures) c.in_err-var.ensures)
