use Rattle.std.proofs.Common.{◌≡◌, ◌<◌, ℕ, get_or}
use Rattle.program.specs.declared.method.MethodId.{MethodId}
use Rattle.text_tests.proofs.listings.programs.is_new.Given as goal

-- the ids so far are other ones
abbrev pub invariant-loop-known : goal.invariant-loop-known
invariant-loop-known l = (k : ℕ) (d : MethodId) → k < l.known-index → get_or l.known-items k d ≡ l.id → ⊥
