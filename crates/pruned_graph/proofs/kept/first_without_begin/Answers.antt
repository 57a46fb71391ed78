-- Thread by thread.
use Rattle.std.proofs.Common.{◌≡◌, ◌⊎◌, inl, inr, ◌≤◌, ◌<◌, ℕ, true, Contains, subst, sym, rules}
use native.Mathlib.Omega.{arith}
use Rattle.std.proofs.Math.Nat.{eq-or-lt_of_le}
use Rattle.spots.specs.Spots.{begin_of}
use Rattle.pruned_graph.proofs.kept.first_without_begin.Goals as goal

pub loop-thread-preserved : goal.loop-thread-preserved
loop-thread-preserved c = λ k less. by k (eq-or-lt_of_le (let most : k ≤ c.loop-thread.thread = omega arith in most))
  where
    has : c.has_begin.result ≡ true
    has = search rules

    by : (k : ℕ) → (k ≡ c.loop-thread.thread) ⊎ (k < c.loop-thread.thread) → Contains c.args.spots.now (begin_of k)
    by k (inl e) = subst (λ (n : ℕ). Contains c.args.spots.now (begin_of n)) (sym e) (c.has_begin.ensures.0 has)
    by k (inr before) = c.loop-thread.invariant k before
