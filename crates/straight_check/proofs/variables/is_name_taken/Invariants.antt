-- No variable so far has the name.
use Rattle.std.proofs.Common.{◌≡◌, ◌<◌, ℕ, Some, slice_get}
use Rattle.program.specs.declared.program.Variable.{Variable}
use Rattle.straight_check.specs.Names.{HaveOneName}
use Rattle.straight_check.proofs.variables.is_name_taken.Given as goal

abbrev pub invariant-loop-other : goal.invariant-loop-other
invariant-loop-other l = (i : ℕ) (a : Variable) → i < l.other-index → slice_get l.others i ≡ Some a → HaveOneName a l.variable → ⊥
