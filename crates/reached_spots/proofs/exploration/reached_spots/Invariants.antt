-- What was explored so far.
use Rattle.std.proofs.Common.{◌+◌, ◌-◌, ◌*◌, ◌≤◌, length}
use Rattle.reached_spots.specs.Exploring.{IsExploring, code_nodes}
use Rattle.reached_spots.proofs.exploration.reached_spots.Given as goal

abbrev pub invariant-loop-spot : goal.invariant-loop-spot
invariant-loop-spot l = IsExploring l.fn.program l.fn.limit l.exploration l.left_out × (length l.exploration.seen.keys ≤ code_nodes)

abbrev pub decreases-loop-spot : goal.decreases-loop-spot
decreases-loop-spot l = length l.exploration.waiting.items + 2 * (code_nodes - length l.exploration.seen.keys)
