-- None of the methods up to the index is the one that is sought.
use Rattle.std.proofs.Common.{◌≡◌, ◌<◌, ℕ, get_or}
use Rattle.program.specs.declared.method.Method.{Method}
use Rattle.program.proofs.program.Program.reached.Given as goal

abbrev pub invariant-loop-method : goal.invariant-loop-method
invariant-loop-method l = (k : ℕ) (d : Method) → k < l.method-index → (get_or l.method-items k d).id ≡ l.id → ⊥
