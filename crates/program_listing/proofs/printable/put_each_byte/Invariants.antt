use Rattle.std.proofs.Common.{◌≤◌, take}
use Rattle.std.specs.List.{flat_map}
use Rattle.program_listing.proofs.PrintedBytes.{printed}
use Rattle.ports.specs.Growth.{Grows}
use Rattle.program_listing.proofs.printable.put_each_byte.Given as goal

-- the bytes so far were put, the count has not fallen, and the rest is the same
abbrev pub invariant-loop-byte : goal.invariant-loop-byte
invariant-loop-byte g l = record {
  grows : Grows (g.S.Sink.held l.fn.out) (g.S.Sink.held l.out) (flat_map printed (take l.byte-index l.bytes));
  kept : g.S.Sink.faults l.fn.out ≤ g.S.Sink.faults l.out;
  rest : g.S.Sink.same_rest l.fn.out l.out;
}
