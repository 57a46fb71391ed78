-- The monitors of the methods so far.
use Rattle.std.proofs.Common.{◌≡◌, take}
use Rattle.untyped_program.specs.Monitors.{monitors_of}
use Rattle.untyped_program.proofs.monitors.monitor_names.Given as goal

abbrev pub invariant-loop-method : goal.invariant-loop-method
invariant-loop-method l = l.monitors ≡ monitors_of l.classes (take l.method-index l.methods)
