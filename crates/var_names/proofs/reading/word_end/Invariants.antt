use Rattle.std.proofs.Common.{◌-◌, ◌≤◌, length, take}
use Rattle.var_names.specs.Readable.{IsDotFree}
use Rattle.var_names.proofs.reading.word_end.Given as goal

abbrev pub invariant-loop-at : goal.invariant-loop-at
invariant-loop-at l = record {
  within : l.at ≤ length l.text;
  word : IsDotFree (take l.at l.text);
}

abbrev pub decreases-loop-at : goal.decreases-loop-at
decreases-loop-at l = length l.text - l.at
