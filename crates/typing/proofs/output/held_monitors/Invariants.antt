use Rattle.program.specs.declared.value_type.HeldMonitor.{HeldMonitor}
use Rattle.typing.specs.Listings.{IsHeld}
use Rattle.typing.specs.Summaries.{summary_of}
use Rattle.typing.proofs.Listed.{ListsSoFar}
use Rattle.typing.proofs.output.held_monitors.Given as goal

abbrev pub invariant-loop-monitor : goal.invariant-loop-monitor
invariant-loop-monitor l = ListsSoFar (λ (x : HeldMonitor). x.monitor) (IsHeld (summary_of l.state)) l.monitor-items l.monitor-index l.listed.items
