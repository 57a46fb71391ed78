use Rattle.std.proofs.Common.{◌≡◌, ◌≤◌, length, map, reverse}
use Rattle.std.specs.Vec.{vec_capacity}
use Rattle.literals.specs.Literal.{opposite_of}
use Rattle.trail.specs.Steps.{decisions_of}
use Rattle.conflict_analysis.specs.Marks.{oldest_steps}
use Rattle.conflict_analysis.proofs.exclusion.put_decisions.Given as goal

abbrev pub invariant-loop-place : goal.invariant-loop-place
invariant-loop-place l = record {
  items : l.literals.items ≡ reverse (map opposite_of (decisions_of (oldest_steps l.place l.trail.steps)));
  few : length l.literals.items ≤ l.place;
  capacity : vec_capacity l.literals ≡ vec_capacity l.initial.literals;
}
