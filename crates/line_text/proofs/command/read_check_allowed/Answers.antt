use Rattle.std.proofs.Common.{◌∷◌, []}
use Rattle.std.proofs.lemmas.Result.{err_from_is_err_and}
use Rattle.std.specs.Fmt.{decimal}
use Rattle.line_text.specs.Fields.{number, outcome}
use Rattle.line_text.proofs.CommandLaws.{bounds-jumps, bounds-width, stuck-behind}
use Rattle.line_text.proofs.command.read_check_allowed.Goals as goal

pub returns-in_err-bounds : goal.returns-in_err-bounds
returns-in_err-bounds c =
    let p = err_from_is_err_and c.from_residual.result c.from_residual.ensures.1 in
    rw (p.1, p.2) (c.in_err-bounds.ensures (outcome ∷ []) 2 65)

pub returns-in_err-outcome : goal.returns-in_err-outcome
returns-in_err-outcome c =
    let p = err_from_is_err_and c.from_residual-in_err-outcome.result c.from_residual-in_err-outcome.ensures.1 in
    let bounds = c.in_ok-bounds.ensures in
    rw (p.1, p.2)
    (stuck-behind (number 0 255) (number 2 32 ∷ outcome ∷ []) 2 65 c.args.words.now 1 (decimal c.in_ok-bounds.bounds.jumps)
    c.in_err-outcome.field-0.0 bounds.1 (bounds-jumps c.in_ok-bounds.bounds bounds.0)
    (stuck-behind (number 2 32) (outcome ∷ []) 2 65 c.args.words.now 2 (decimal c.in_ok-bounds.bounds.width)
    c.in_err-outcome.field-0.0 bounds.2 (bounds-width c.in_ok-bounds.bounds bounds.0) c.in_err-outcome.ensures))
