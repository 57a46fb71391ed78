use Rattle.std.proofs.Common.{◌≡◌, ℕ, true, length}
use Rattle.clause_pool.specs.PoolValue.{IsIn}
use Rattle.literals.specs.Truth.{holds, values_of}
use Rattle.trail.specs.Steps.{literals_of}
use Rattle.conflict_analysis.specs.Marks.{oldest_steps}
use Rattle.sat_solver.proofs.assigning.assign_all.Given as goal

-- the literals of the oldest steps are true, as far as the loop has come
abbrev pub invariant-loop-place : goal.invariant-loop-place
invariant-loop-place l = record {
  size : length l.values ≡ length l.initial.values;
  true_so_far : (literal : ℕ) → IsIn literal (literals_of (oldest_steps l.place l.trail.steps)) → holds (values_of l.values) literal ≡ true;
}
