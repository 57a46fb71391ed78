-- What was met so far.
use Rattle.std.proofs.Common.{◌≤◌, length, take}
use Rattle.reached_spots.specs.Exploring.{IsMet, LeadsAmong, code_nodes}
use Rattle.reached_spots.proofs.exploration.spread.Given as goal

abbrev pub invariant-loop-step : goal.invariant-loop-step
invariant-loop-step l = IsMet l.fn.exploration l.exploration (LeadsAmong (take l.step-index l.steps)) × (length l.exploration.seen.keys ≤ code_nodes)
