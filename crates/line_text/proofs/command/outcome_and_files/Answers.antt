use Rattle.std.proofs.Common.{[], ◌+◌, arith}
use Rattle.std.proofs.lemmas.Option.{slice_get_within}
use Rattle.std.proofs.lemmas.Result.{err_from_is_err_and}
use Rattle.line_text.specs.Fields.{outcome}
use Rattle.line_text.proofs.CommandLaws.{stuck-behind, stuck-files, stuck-from}
use Rattle.line_text.proofs.command.outcome_and_files.Goals as goal

pub returns-in_err-outcome : goal.returns-in_err-outcome
returns-in_err-outcome c =
    let p = err_from_is_err_and c.from_residual.result c.from_residual.ensures.1 in
    rw (p.1, p.2) (stuck-from outcome [] c.args.least c.args.most c.args.words.now c.args.at c.in_err-outcome.field-0.0 c.in_err-outcome.ensures)

pub check_files-requires-clause-within : goal.check_files-requires-clause-within
check_files-requires-clause-within c =
    let read = c.in_ok-outcome.ensures in
    omega (arith, slice_get_within c.args.words.now c.args.at read.0 read.2)

pub returns-in_err-check_files : goal.returns-in_err-check_files
returns-in_err-check_files c =
    let p = err_from_is_err_and c.from_residual-in_err-check_files.result c.from_residual-in_err-check_files.ensures.1 in
    let read = c.in_ok-outcome.ensures in
    rw (p.1, p.2)
    (stuck-behind outcome [] c.args.least c.args.most c.args.words.now c.args.at read.0 c.in_err-check_files.field-0.0 read.2
    (record { parts = c.in_ok-outcome.outcome; text = read.1 })
    (stuck-files c.args.least c.args.most c.args.words.now (c.args.at + 1) c.in_err-check_files.field-0.0 c.in_err-check_files.ensures))
