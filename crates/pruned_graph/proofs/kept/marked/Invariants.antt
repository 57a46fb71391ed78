-- The marked ones of the first spots.
use Rattle.std.proofs.Common.{◌≡◌, take}
use Rattle.pruned_graph.proofs.Marked.{marked_of}
use Rattle.pruned_graph.proofs.kept.marked.Given as goal

abbrev pub invariant-loop-place : goal.invariant-loop-place
invariant-loop-place l = l.kept ≡ marked_of (take l.place l.spots) (take l.place l.marks)
