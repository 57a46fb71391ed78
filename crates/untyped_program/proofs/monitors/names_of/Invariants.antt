-- The names so far.
use Rattle.std.proofs.Common.{◌≡◌, take}
use Rattle.untyped_program.proofs.monitors.names_of.Given as goal

abbrev pub invariant-loop-at : goal.invariant-loop-at
invariant-loop-at l = l.names ≡ take l.at l.monitors
