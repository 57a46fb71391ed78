use Rattle.std.proofs.Common.{◌∷◌, [], refl}
use Rattle.std.proofs.lemmas.Result.{err_from_is_err_and}
use Rattle.std.specs.Fmt.{decimal}
use Rattle.line_text.specs.Fields.{number, outcome}
use Rattle.line_text.proofs.CommandLaws.{bounds-jumps, bounds-width, stuck-behind, stuck-from}
use Rattle.line_text.proofs.command.read_decide.Goals as goal

pub returns-in_err-bounds : goal.returns-in_err-bounds
returns-in_err-bounds c =
    let p = err_from_is_err_and c.from_residual.result c.from_residual.ensures.1 in
    rw (p.1, p.2) (c.in_err-bounds.ensures (number 0 18446744073709551615 ∷ outcome ∷ []) 3 66)

pub returns-in_err-budget : goal.returns-in_err-budget
returns-in_err-budget c =
    let p = err_from_is_err_and c.from_residual-in_err-budget.result c.from_residual-in_err-budget.ensures.1 in
    let bounds = c.in_ok-bounds.ensures in
    rw (p.1, p.2)
    (stuck-behind (number 0 255) (number 2 32 ∷ number 0 18446744073709551615 ∷ outcome ∷ []) 3 66 c.args.words.now 1
    (decimal c.in_ok-bounds.bounds.jumps) c.in_err-budget.field-0.0 bounds.1 (bounds-jumps c.in_ok-bounds.bounds bounds.0)
    (stuck-behind (number 2 32) (number 0 18446744073709551615 ∷ outcome ∷ []) 3 66 c.args.words.now 2
    (decimal c.in_ok-bounds.bounds.width) c.in_err-budget.field-0.0 bounds.2 (bounds-width c.in_ok-bounds.bounds bounds.0)
    (stuck-from (number 0 18446744073709551615) (outcome ∷ []) 3 66 c.args.words.now 3 c.in_err-budget.field-0.0 c.in_err-budget.ensures)))

pub returns-in_err-outcome : goal.returns-in_err-outcome
returns-in_err-outcome c =
    let p = err_from_is_err_and c.from_residual-in_err-outcome.result c.from_residual-in_err-outcome.ensures.1 in
    let bounds = c.in_ok-bounds.ensures in
    let budget = c.in_ok-budget.ensures in
    rw (p.1, p.2)
    (stuck-behind (number 0 255) (number 2 32 ∷ number 0 18446744073709551615 ∷ outcome ∷ []) 3 66 c.args.words.now 1
    (decimal c.in_ok-bounds.bounds.jumps) c.in_err-outcome.field-0.0 bounds.1 (bounds-jumps c.in_ok-bounds.bounds bounds.0)
    (stuck-behind (number 2 32) (number 0 18446744073709551615 ∷ outcome ∷ []) 3 66 c.args.words.now 2
    (decimal c.in_ok-bounds.bounds.width) c.in_err-outcome.field-0.0 bounds.2 (bounds-width c.in_ok-bounds.bounds bounds.0)
    (stuck-behind (number 0 18446744073709551615) (outcome ∷ []) 3 66 c.args.words.now 3 (decimal c.in_ok-budget.budget)
    c.in_err-outcome.field-0.0 budget.2 (record { number = c.in_ok-budget.budget; low = budget.0; high = budget.1; text = refl })
    c.in_err-outcome.ensures)))
