use Rattle.std.proofs.Common.{◌≡◌, ◌<◌, ℕ}
use Rattle.clause_pool.specs.PoolValue.{IsIn}
use Rattle.sat_solver.proofs.opening.wait_all.Given as goal

-- the variables so far wait
abbrev pub invariant-loop-variable : goal.invariant-loop-variable
invariant-loop-variable l = record {
  waits : (variable : ℕ) → variable < l.variable → IsIn variable l.order.waiting;
  variables : l.order.variables ≡ l.initial.order.variables;
}
