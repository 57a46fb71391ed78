-- What is known at the first places.
use Rattle.std.proofs.Common.{map, take}
use Rattle.node_details.specs.Frames.{AreKnown, frame_of}
use Rattle.node_details.proofs.known.known_frames.Given as goal

abbrev pub invariant-loop-at : goal.invariant-loop-at
invariant-loop-at l = AreKnown l.program (take l.at-index l.chain) (map frame_of l.frames.items)
