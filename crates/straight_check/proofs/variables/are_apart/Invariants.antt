-- No two variables so far have one name.
use Rattle.std.proofs.Common.{◌≡◌, ◌<◌, ℕ, Some, slice_get}
use Rattle.program.specs.declared.program.Variable.{Variable}
use Rattle.straight_check.specs.Names.{HaveOneName}
use Rattle.straight_check.proofs.variables.are_apart.Given as goal

abbrev pub invariant-loop-place : goal.invariant-loop-place
invariant-loop-place l = (i j : ℕ) (a b : Variable) → i < j → j < l.place → slice_get l.variables i ≡ Some a → slice_get l.variables j ≡ Some b → HaveOneName a b → ⊥
