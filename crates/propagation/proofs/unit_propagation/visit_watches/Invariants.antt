use Rattle.std.proofs.Common.{◌≡◌, ℕ, List, length, slice_get}
use Rattle.clause_pool.specs.PoolValue.{list_at, rest_from}
use Rattle.propagation.specs.Ready.{IsSamePool, IsExtended}
use Rattle.propagation.proofs.Visiting.{IsVisiting}
use Rattle.propagation.proofs.unit_propagation.visit_watches.Given as goal

-- the clauses of `rest` are left to visit
abbrev pub invariant-loop-at : goal.invariant-loop-at
invariant-loop-at l = record {
  rest : List ℕ;
  at_rest : l.at ≡ slice_get rest 0;
  visiting : IsVisiting l.pool l.trail l.place l.literal rest;
  same_pool : IsSamePool l.initial.pool l.pool;
  extended : IsExtended l.initial.trail l.trail;
}

abbrev pub decreases-loop-at : goal.decreases-loop-at
decreases-loop-at l = length (rest_from l.at (list_at l.pool.watches l.literal))
