-- How often each frame of a run has entered each monitor by monitorenter and not left it again.
use Rattle.std.specs.Prelude.{◌+◌, ◌-◌, ℕ, List, [], ◌∷◌, Option, Some, length, nat_lt, if◌then◌else◌}
use Rattle.program.specs.Run.{Move}
use Rattle.program.specs.Step.{Activation}
use Rattle.program.specs.declared.event.Event.{Event}
use Rattle.program.specs.declared.event.Event.TheVariants.{Lock, Unlock}
use Rattle.typing.specs.States.{with_value}

-- a frame that has entered nothing
abbrev pub nothing_held : ℕ → ℕ
nothing_held monitor = 0

-- the counts of a frame behind an event of its own
abbrev pub held_after : Option Event → (ℕ → ℕ) → ℕ → ℕ
held_after (Some (Lock m)) held = with_value held m (held m + 1)
held_after (Some (Unlock m)) held = with_value held m (held m - 1)
held_after _ held = held

abbrev pub innermost_after : Option Event → List (ℕ → ℕ) → List (ℕ → ℕ)
innermost_after event [] = []
innermost_after event (held ∷ counts) = held_after event held ∷ counts

abbrev pub without_innermost : List (ℕ → ℕ) → List (ℕ → ℕ)
without_innermost [] = []
without_innermost (held ∷ counts) = counts

-- the counts behind a step, by how many frames there are before it and behind it: a call enters a frame, a return leaves one,
-- and what such a step locks or unlocks is the monitor of the method and none of the frame's
abbrev pub counts_behind : ℕ → ℕ → Option Event → List (ℕ → ℕ) → List (ℕ → ℕ)
counts_behind before after event counts =
    if nat_lt before after then nothing_held ∷ counts else if nat_lt after before then without_innermost counts else innermost_after event counts

-- the counts behind steps from a state
abbrev pub counts_after : List Activation → List Move → List (ℕ → ℕ) → List (ℕ → ℕ)
counts_after s [] counts = counts
counts_after s (m ∷ moves) counts = counts_after m.state moves (counts_behind (length s) (length m.state) m.effect.event counts)
