use Rattle.std.proofs.Common.{◌≤◌, take}
use Rattle.std.specs.List.{flat_map}
use Rattle.program_listing.specs.ListingText.{monitor_line}
use Rattle.ports.specs.Growth.{Grows}
use Rattle.program_listing.proofs.listing.put_monitors.Given as goal

-- the monitors so far were put, the count has not fallen, and the rest is the same
abbrev pub invariant-loop-class : goal.invariant-loop-class
invariant-loop-class g l = record {
  grows : Grows (g.S.Sink.held l.fn.out) (g.S.Sink.held l.out) (flat_map monitor_line (take l.class-index l.monitors));
  kept : g.S.Sink.faults l.fn.out ≤ g.S.Sink.faults l.out;
  rest : g.S.Sink.same_rest l.fn.out l.out;
}
