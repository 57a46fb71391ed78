-- What was added, and what the rest adds.
use Rattle.std.proofs.Common.{◌≡◌, ◌++◌, drop, map}
use Rattle.node_details.specs.Frames.{frame_of}
use Rattle.node_details.specs.Slots.{int_slots_of}
use Rattle.node_details.proofs.slots.int_slots.Given as goal

abbrev pub invariant-loop-place : goal.invariant-loop-place
invariant-loop-place l = l.slots.items ++ int_slots_of l.base (map frame_of (drop l.place l.frames)) ≡ int_slots_of 0 (map frame_of l.frames)
