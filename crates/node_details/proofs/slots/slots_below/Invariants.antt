-- What was added, and what the rest adds.
use Rattle.std.proofs.Common.{◌≡◌, ◌+◌, drop, map}
use Rattle.node_details.specs.Frames.{frame_of}
use Rattle.node_details.specs.Slots.{sizes_of}
use Rattle.node_details.proofs.slots.slots_below.Given as goal

abbrev pub invariant-loop-frame : goal.invariant-loop-frame
invariant-loop-frame l = l.base + sizes_of (map frame_of (drop l.frame-index l.frames)) ≡ sizes_of (map frame_of l.frames)
