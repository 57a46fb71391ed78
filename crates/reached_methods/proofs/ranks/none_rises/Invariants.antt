use Rattle.std.proofs.Common.{ℕ, ◌<◌}
use Rattle.reached_methods.specs.Ranks.{AllFallBy}
use Rattle.reached_methods.proofs.ranks.none_rises.Given as goal

abbrev pub invariant-loop-at : goal.invariant-loop-at
invariant-loop-at l = (k : ℕ) → k < l.at → AllFallBy l.surveys l.ranks 0 k
