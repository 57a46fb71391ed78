-- The threads that were met.
use Rattle.std.proofs.Common.{◌≤◌, length}
use Rattle.reached_spots.specs.Exploring.{BeginsBelow, IsMet, code_nodes}
use Rattle.reached_spots.proofs.exploration.started.Given as goal

abbrev pub invariant-loop-thread : goal.invariant-loop-thread
invariant-loop-thread l = IsMet l.initial.exploration l.exploration (BeginsBelow l.thread) × (length l.exploration.seen.keys ≤ code_nodes)
