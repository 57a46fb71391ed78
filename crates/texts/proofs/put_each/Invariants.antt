use Rattle.std.proofs.Common.{◌≤◌, take}
use Rattle.std.specs.List.{flat_map}
use Rattle.ports.specs.Growth.{Grows}
use Rattle.texts.proofs.put_each.Given as goal

-- the items so far were put, the count has not fallen, and the rest is the same
abbrev pub invariant-loop-item : goal.invariant-loop-item
invariant-loop-item g l = record {
  grows : Grows (g.S.Sink.held l.fn.out) (g.S.Sink.held l.out) (flat_map (g.W.Spelling.text l.spelling) (take l.item-index l.items));
  kept : g.S.Sink.faults l.fn.out ≤ g.S.Sink.faults l.out;
  rest : g.S.Sink.same_rest l.fn.out l.out;
}
