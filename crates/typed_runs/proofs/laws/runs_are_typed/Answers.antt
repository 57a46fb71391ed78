-- Frames match their paths, and so agree with the typed states.
use Rattle.std.proofs.Common.{[], ◌∷◌}
use Rattle.typed_runs.specs.Counts.{counts_after, nothing_held}
use Rattle.typed_runs.proofs.Agreeing.{entry_frames, run_frames, typed_frames}
use Rattle.typed_runs.proofs.laws.runs_are_typed.Goals as goal

pub returns : goal.returns
returns c classes p k ended start s moves is entry leads =
    typed_frames classes p is s (counts_after start moves (nothing_held ∷ []))
    (run_frames classes p is ended start s moves (nothing_held ∷ []) (entry_frames classes p is k start entry) leads)
