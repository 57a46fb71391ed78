use Rattle.std.proofs.Common.{◌≡◌, ℕ, ◌<◌, get_or, true}
use Rattle.literals.specs.Truth.{holds, values_of}
use Rattle.literals.proofs.truth.is_true.Given as goal

-- no literal so far is true
abbrev pub invariant-loop-literal : goal.invariant-loop-literal
invariant-loop-literal l = (k : ℕ) → k < l.literal-index → holds (values_of l.values) (get_or l.clause k 0) ≡ true → ⊥
