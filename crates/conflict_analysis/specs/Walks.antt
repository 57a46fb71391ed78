-- The walk back along the trail, with the hints in the order in which they were found.
use Rattle.std.specs.Prelude.{ℕ, ◌+◌, ◌≤◌, ◌<◌, List, reverse, map, length}
use Rattle.clause_pool.specs.PoolValue.{PoolValue}
use Rattle.trail.specs.Steps.{TrailValue, level_of}
use Rattle.propagation.specs.Watches.{HaveReasons}
use Rattle.conflict_analysis.specs.declared.hint.Hint.{Hint}
use Rattle.conflict_analysis.specs.declared.resolvent.Resolvent.{Resolvent}
use Rattle.conflict_analysis.specs.Hints.{clause_of_hint, AreKnownHints}
use Rattle.conflict_analysis.specs.Marks.{EndsWith}
use Rattle.conflict_analysis.specs.Resolvents.{IsResolvent, left_of}

pub record IsWalk (r : Resolvent) (hints : List Hint) (capacity : ℕ) (pool : PoolValue) (trail : TrailValue) : Type 0 where
  pub resolvent : IsResolvent r trail
  pub reasons : HaveReasons pool.clauses trail.steps
  pub known : AreKnownHints pool.clauses trail.steps (reverse hints)
  pub ends : EndsWith r.marks.items (left_of r trail) (map (clause_of_hint pool.clauses trail.steps) (reverse hints))
  pub room : length hints + r.place ≤ capacity
  pub some : 0 < level_of trail.steps → 0 < r.pending
