use Rattle.std.proofs.Common.{◌≤◌, ◌<◌, ◌≢◌, ℕ, slice_get}
use Rattle.line_text.proofs.command.is_new_file.Given as goal

abbrev pub invariant-loop-earlier : goal.invariant-loop-earlier
invariant-loop-earlier l = (k : ℕ) → l.from ≤ k → k < l.earlier → slice_get l.words k ≢ slice_get l.words l.at
