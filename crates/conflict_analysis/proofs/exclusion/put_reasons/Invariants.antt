use Rattle.std.proofs.Common.{◌≡◌, ◌≤◌, length}
use Rattle.std.specs.Vec.{vec_capacity}
use Rattle.conflict_analysis.specs.Marks.{oldest_steps}
use Rattle.conflict_analysis.specs.Exclusions.{reason_hints}
use Rattle.conflict_analysis.proofs.exclusion.put_reasons.Given as goal

abbrev pub invariant-loop-place : goal.invariant-loop-place
invariant-loop-place l = record {
  items : l.hints.items ≡ reason_hints (oldest_steps l.place l.trail.steps);
  few : length l.hints.items ≤ l.place;
  capacity : vec_capacity l.hints ≡ vec_capacity l.initial.hints;
}
