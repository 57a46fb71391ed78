use Rattle.std.proofs.Common.{[], arith, refl}
use Rattle.std.proofs.lemmas.Option.{slice_get_within}
use Rattle.std.proofs.lemmas.Result.{err_from_is_err_and}
use Rattle.std.specs.Fmt.{decimal}
use Rattle.line_text.specs.Fields.{number}
use Rattle.line_text.proofs.CommandLaws.{stuck-behind, stuck-files, stuck-from}
use Rattle.line_text.proofs.command.read_generate.Goals as goal

pub returns-in_err-number : goal.returns-in_err-number
returns-in_err-number c =
    let p = err_from_is_err_and c.from_residual.result c.from_residual.ensures.1 in
    rw (p.1, p.2) (stuck-from (number 0 767) [] 2 2 c.args.words.now 1 c.in_err-number.field-0.0 c.in_err-number.ensures)

pub check_files-requires-clause-within : goal.check_files-requires-clause-within
check_files-requires-clause-within c =
    let read = c.in_ok-number.ensures in
    omega (arith, slice_get_within c.args.words.now 1 (decimal c.in_ok-number.number) read.2)

pub returns-in_err-check_files : goal.returns-in_err-check_files
returns-in_err-check_files c =
    let p = err_from_is_err_and c.from_residual-in_err-check_files.result c.from_residual-in_err-check_files.ensures.1 in
    let read = c.in_ok-number.ensures in
    rw (p.1, p.2)
    (stuck-behind (number 0 767) [] 2 2 c.args.words.now 1 (decimal c.in_ok-number.number) c.in_err-check_files.field-0.0 read.2
    (record { number = c.in_ok-number.number; low = read.0; high = read.1; text = refl })
    (stuck-files 2 2 c.args.words.now 2 c.in_err-check_files.field-0.0 c.in_err-check_files.ensures))
