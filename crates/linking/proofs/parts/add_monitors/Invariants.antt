-- The monitors so far.
use Rattle.std.proofs.Common.{◌≡◌, ◌++◌, take}
use Rattle.linking.proofs.parts.add_monitors.Given as goal

abbrev pub invariant-loop-monitor : goal.invariant-loop-monitor
invariant-loop-monitor l = l.program ≡ record l.initial.program { monitors = l.initial.program.monitors ++ take l.monitor-index l.monitors }
