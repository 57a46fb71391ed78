use Rattle.std.proofs.Common.{length, ◌-◌, ◌≤◌, take}
use Rattle.ports.specs.Growth.{Grows}
use Rattle.ports.proofs.put.put_all.Given as goal

-- a prefix was put so far, the count has not fallen, and the rest is the same
abbrev pub invariant-loop-place : goal.invariant-loop-place
invariant-loop-place g l = record {
  within : l.place ≤ length l.bytes;
  grows : Grows (g.S.Sink.held l.initial.out) (g.S.Sink.held l.out) (take l.place l.bytes);
  kept : g.S.Sink.faults l.initial.out ≤ g.S.Sink.faults l.out;
  rest : g.S.Sink.same_rest l.initial.out l.out;
}

abbrev pub decreases-loop-place : goal.decreases-loop-place
decreases-loop-place g l = length l.bytes - l.place
