-- How few the lines of clauses are.
use Rattle.std.proofs.Common.{◌≡◌, ◌+◌, ◌≤◌, ◌^◌, ℕ, List, Option, ap, arith, length}
use Rattle.var_names.specs.Formulas.{FormulaValue}
use Rattle.logged_search.specs.Logged.{IsLogged}
use Rattle.logged_search.specs.declared.search.LoggedSearch.{LoggedSearch}
use Rattle.logged_search.proofs.Ranks.{pow-double, pow-some, rank-few}
use Rattle.sat_solver.specs.Ends.{AreFew}

pub few-one : (formula : FormulaValue) (count : ℕ) → count ≡ 0 → AreFew formula (count + 1)
few-one formula count none =
    let some = pow-some (length formula.variables) in
    let double = pow-double (length formula.variables) in
    omega (arith, some, double, none)

-- one line more than a search has put so far
pub few-more : (formula : FormulaValue) (search : LoggedSearch) (clauses : List (Option (List ℕ))) (count : ℕ) → IsLogged formula search clauses → count ≤ search.log.derived → AreFew formula (count + 1)
few-more formula search clauses count logged upto =
    let few = rank-few search.state.trail.variables search.state.trail.steps logged.state.fit.trail_sound.steps in
    let same = ap (λ n. 2 ^ (n + 1)) logged.sized.variables in
    omega (arith, few, same, logged.counted, upto)
