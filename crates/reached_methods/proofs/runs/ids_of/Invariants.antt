use Rattle.std.proofs.Common.{◌≡◌, ◌<◌, ℕ, None, length}
use Rattle.std.specs.Prelude.{slice_index_or}
use Rattle.reached_methods.specs.Reached.{run_of}
use Rattle.reached_methods.proofs.runs.ids_of.Given as goal

abbrev pub invariant-loop-place : goal.invariant-loop-place
invariant-loop-place l = record {
  whole : length l.ids.items ≡ l.place;
  are : (k : ℕ) → k < l.place → slice_index_or l.ids.items k None ≡ run_of l.classes k;
}
