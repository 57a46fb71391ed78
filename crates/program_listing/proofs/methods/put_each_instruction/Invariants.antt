use Rattle.std.proofs.Common.{◌≤◌, take}
use Rattle.std.specs.List.{flat_map}
use Rattle.program_listing.specs.Instructions.{instruction_line}
use Rattle.ports.specs.Growth.{Grows}
use Rattle.program_listing.proofs.methods.put_each_instruction.Given as goal

-- the instructions so far were put, the count has not fallen, and the rest is the same
abbrev pub invariant-loop-listed : goal.invariant-loop-listed
invariant-loop-listed g l = record {
  grows : Grows (g.S.Sink.held l.fn.out) (g.S.Sink.held l.out) (flat_map (instruction_line l.pool) (take l.listed-index l.listing));
  kept : g.S.Sink.faults l.fn.out ≤ g.S.Sink.faults l.out;
  rest : g.S.Sink.same_rest l.fn.out l.out;
}
