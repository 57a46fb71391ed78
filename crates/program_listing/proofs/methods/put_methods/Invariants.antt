use Rattle.std.proofs.Common.{◌≤◌, take}
use Rattle.std.specs.List.{flat_map}
use Rattle.program_listing.specs.ListingText.{method_lines}
use Rattle.ports.specs.Growth.{Grows}
use Rattle.program_listing.proofs.methods.put_methods.Given as goal

-- the methods so far were put, the count has not fallen, and the rest is the same
abbrev pub invariant-loop-id : goal.invariant-loop-id
invariant-loop-id g l = record {
  grows : Grows (g.S.Sink.held l.fn.out) (g.S.Sink.held l.out) (flat_map (method_lines l.classes) (take l.id-index l.program.methods));
  kept : g.S.Sink.faults l.fn.out ≤ g.S.Sink.faults l.out;
  rest : g.S.Sink.same_rest l.fn.out l.out;
}
