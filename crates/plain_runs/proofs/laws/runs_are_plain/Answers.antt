-- The frames are typed, and no method calls itself.
use Rattle.std.proofs.Common.{[], ◌∷◌}
use Rattle.typed_runs.specs.Counts.{counts_after, nothing_held}
use Rattle.plain_runs.proofs.Within.{frames_plain}
use Rattle.plain_runs.proofs.laws.runs_are_plain.Goals as goal

pub returns : goal.returns
returns c classes p k ended start s moves is entry leads =
    frames_plain p (λ id path. c.none_calls_itself.ensures classes p id is path) s (counts_after start moves (nothing_held ∷ []))
    (c.runs_are_typed.ensures classes p k ended start s moves is entry leads)
