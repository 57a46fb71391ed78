use Rattle.std.proofs.Common.{◌≤◌, take}
use Rattle.std.specs.List.{flat_map}
use Rattle.program_listing.specs.ListingText.{variable_line}
use Rattle.ports.specs.Growth.{Grows}
use Rattle.program_listing.proofs.listing.put_variables.Given as goal

-- the variables so far were put, the count has not fallen, and the rest is the same
abbrev pub invariant-loop-variable : goal.invariant-loop-variable
invariant-loop-variable g l = record {
  grows : Grows (g.S.Sink.held l.fn.out) (g.S.Sink.held l.out) (flat_map variable_line (take l.variable-index l.variables));
  kept : g.S.Sink.faults l.fn.out ≤ g.S.Sink.faults l.out;
  rest : g.S.Sink.same_rest l.fn.out l.out;
}
