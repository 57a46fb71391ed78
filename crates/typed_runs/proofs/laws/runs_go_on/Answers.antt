-- A frame that matches its path has a step.
use Rattle.std.proofs.Common.{[], ◌∷◌}
use Rattle.typed_runs.specs.Counts.{counts_after, nothing_held}
use Rattle.typed_runs.proofs.Agreeing.{entry_frames, run_frames}
use Rattle.typed_runs.proofs.Going.{goes_on}
use Rattle.typed_runs.proofs.laws.runs_go_on.Goals as goal

pub returns : goal.returns
returns c classes p k ended start s moves valid is entry leads some =
    goes_on classes p is valid ended s (counts_after start moves (nothing_held ∷ []))
    (run_frames classes p is ended start s moves (nothing_held ∷ []) (entry_frames classes p is k start entry) leads) some
