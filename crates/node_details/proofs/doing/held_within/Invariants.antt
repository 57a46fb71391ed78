-- What was counted, and what the rest adds.
use Rattle.std.proofs.Common.{◌≡◌, ◌+◌, drop, map}
use Rattle.node_details.specs.Actions as spec
use Rattle.node_details.specs.Frames.{frame_of}
use Rattle.node_details.proofs.doing.held_within.Given as goal

abbrev pub invariant-loop-frame : goal.invariant-loop-frame
invariant-loop-frame l = l.times + spec.held_within l.fn.monitor (map frame_of (drop l.frame-index l.frames)) ≡ spec.held_within l.fn.monitor (map frame_of l.frames)
