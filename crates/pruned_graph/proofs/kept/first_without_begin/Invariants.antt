-- The threads before have their beginnings there.
use Rattle.std.proofs.Common.{◌<◌, ℕ, Contains}
use Rattle.spots.specs.Spots.{begin_of}
use Rattle.pruned_graph.proofs.kept.first_without_begin.Given as goal

abbrev pub invariant-loop-thread : goal.invariant-loop-thread
invariant-loop-thread l = (k : ℕ) → k < l.thread → Contains l.spots (begin_of k)
