-- Frames agree with the typed states of their places.
use Rattle.std.proofs.Common.{[], ◌∷◌}
use Rattle.typed_runs.specs.Counts.{counts_after, nothing_held}
use Rattle.graph_laws.proofs.SlotInts.{slots_are_ints}
use Rattle.graph_laws.proofs.laws.slots_are_ints.Goals as goal

pub returns : goal.returns
returns c classes p k ended start s moves stand frames slot is entry leads same known there =
    slots_are_ints p s (counts_after start moves (nothing_held ∷ [])) stand.places frames slot (c.are_ordered.ensures classes p is)
    (c.runs_are_typed.ensures classes p k ended start s moves is entry leads) same known there
