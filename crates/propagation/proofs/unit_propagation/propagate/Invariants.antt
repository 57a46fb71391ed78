use Rattle.std.proofs.Common.{◌-◌}
use Rattle.propagation.specs.Ready.{IsFit, IsReady, IsSamePool, IsExtended}
use Rattle.propagation.proofs.unit_propagation.propagate.Given as goal

abbrev pub invariant-loop-place : goal.invariant-loop-place
invariant-loop-place l = record {
  fit : IsFit l.pool l.trail;
  ready : IsReady l.pool l.trail l.place;
  same_pool : IsSamePool l.initial.pool l.pool;
  extended : IsExtended l.initial.trail l.trail;
}

abbrev pub decreases-loop-place : goal.decreases-loop-place
decreases-loop-place l = l.trail.variables - l.place
