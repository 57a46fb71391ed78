use Rattle.std.proofs.Common.{◌≡◌, ℕ, Some, length}
use Rattle.clause_pool.specs.PoolValue.{IsIn, IsSound, list_at, rest_from}
use Rattle.search_tests.proofs.pool.script.walk.Given as goal

abbrev pub invariant-loop-at : goal.invariant-loop-at
invariant-loop-at l = record {
  sound : IsSound l.pool;
  inside : (k : ℕ) → l.at ≡ Some k → IsIn k (list_at l.pool.watches l.literal);
}

abbrev pub decreases-loop-at : goal.decreases-loop-at
decreases-loop-at l = length (rest_from l.at (list_at l.pool.watches l.literal))
