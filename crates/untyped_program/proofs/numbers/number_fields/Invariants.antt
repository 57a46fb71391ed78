-- The variables of the classes so far, and the numbers of their fields.
use Rattle.std.proofs.Common.{◌≡◌, ◌<◌, ℕ, [], length, take, get_or}
use Rattle.untyped_program.specs.Tables.{AreNumbersFrom, marked_from, row_of}
use Rattle.untyped_program.proofs.numbers.number_fields.Given as goal

abbrev pub invariant-loop-place : goal.invariant-loop-place
invariant-loop-place l = record {
  variables : l.variables ≡ marked_from (take l.place l.rows) (take l.place l.classes);
  size : length l.numbers.items ≡ l.place;
  each : (k : ℕ) → k < l.place → AreNumbersFrom (length (marked_from (take k l.rows) (take k l.classes))) (row_of l.rows k) (get_or l.numbers.items k []);
}
