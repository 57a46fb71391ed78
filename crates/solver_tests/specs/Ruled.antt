-- Clauses whose rules are numbered from 1 on.
use Rattle.std.specs.Prelude.{◌≡◌, ◌≢◌, ℕ, ◌+◌, AllPairs, List, Some, slice_get, length}
use Rattle.std.proofs.Common.{ap, arith, get_or}
use Rattle.std.proofs.lemmas.Option.{slice_get-get_or}
use Rattle.var_names.specs.declared.rule.Rule.{Rule}
use Rattle.var_names.specs.Formulas.{RuledClause}

-- the rule of the clause at each place has the next number for its own, and no arguments
abbrev pub HaveTheirNumbers : List RuledClause → Type 0
HaveTheirNumbers clauses =
    (at : ℕ) (clause : RuledClause) → slice_get clauses at ≡ Some clause → (clause.rule.number ≡ at + 1) × (length clause.rule.args ≡ 0)

-- the clause at this place has the rule
abbrev pub HasRule : List RuledClause → Rule → ℕ → Type 0
HasRule clauses rule at = (clause : RuledClause) × (slice_get clauses at ≡ Some clause) × (clause.rule ≡ rule)

-- so no two clauses have one rule
pub rules_apart : (clauses : List RuledClause) → HaveTheirNumbers clauses → AllPairs (λ (earlier later : RuledClause). earlier.rule ≢ later.rule) clauses
rules_apart clauses numbered i j d before within same =
    let one = numbered i (get_or clauses i d) (slice_get-get_or clauses i d (omega (arith, before, within))) in
    let other = numbered j (get_or clauses j d) (slice_get-get_or clauses j d within) in
    let numbers : (get_or clauses i d).rule.number ≡ (get_or clauses j d).rule.number = ap (λ (r : Rule). r.number) same in
    omega (arith, one.0, other.0, numbers, before)
