use Rattle.std.proofs.Common.{◌∷◌, refl}
use Rattle.std.proofs.lemmas.Result.{err_from_is_err_and}
use Rattle.std.specs.Fmt.{decimal}
use Rattle.line_text.specs.Fields.{number}
use Rattle.line_text.proofs.CommandLaws.{stuck-behind, stuck-from}
use Rattle.line_text.proofs.command.read_bounds.Goals as goal

pub returns-in_err-jumps : goal.returns-in_err-jumps
returns-in_err-jumps c =
    let p = err_from_is_err_and c.from_residual.result c.from_residual.ensures.1 in
    rw (p.1, p.2) (λ fields least most.
    stuck-from (number 0 255) (number 2 32 ∷ fields) least most c.args.words.now 1 c.in_err-jumps.field-0.0 c.in_err-jumps.ensures)

pub returns-in_err-width : goal.returns-in_err-width
returns-in_err-width c =
    let p = err_from_is_err_and c.from_residual-in_err-width.result c.from_residual-in_err-width.ensures.1 in
    let jumps = c.in_ok-jumps.ensures in
    rw (p.1, p.2) (λ fields least most.
    stuck-behind (number 0 255) (number 2 32 ∷ fields) least most c.args.words.now 1 (decimal c.in_ok-jumps.jumps) c.in_err-width.field-0.0
    jumps.2 (record { number = c.in_ok-jumps.jumps; low = jumps.0; high = jumps.1; text = refl })
    (stuck-from (number 2 32) fields least most c.args.words.now 2 c.in_err-width.field-0.0 c.in_err-width.ensures))
