use Rattle.std.proofs.Common.{◌≡◌}
use Rattle.std.specs.Vec.{vec_capacity}
use Rattle.conflict_analysis.specs.Walks.{IsWalk}
use Rattle.conflict_analysis.proofs.walk.walk_back.Given as goal

abbrev pub invariant-loop-resolvent : goal.invariant-loop-resolvent
invariant-loop-resolvent l = record {
  walk : IsWalk l.resolvent l.hints.items (vec_capacity l.hints) l.pool l.trail;
  capacity : vec_capacity l.hints ≡ vec_capacity l.initial.hints;
}

abbrev pub decreases-loop-resolvent : goal.decreases-loop-resolvent
decreases-loop-resolvent l = l.resolvent.place
