use Rattle.std.proofs.Common.{◌-◌, ◌≡◌, ◌≤◌, length}
use Rattle.token_reader.specs.AtHand.{behind, whole}
use Rattle.token_reader.proofs.reader.ReaderBytes.want.Given as goal

-- nothing was taken, and what may not change has not changed
abbrev pub invariant-loop-self : goal.invariant-loop-self
invariant-loop-self g l = record {
  left : behind l.self.buffer (g.S.Source.left l.self.source) ≡ behind l.fn.self.buffer (g.S.Source.left l.fn.self.source);
  rest : g.S.Source.same_rest l.fn.self.source l.self.source;
  kept : g.S.Source.faults l.fn.self.source ≤ g.S.Source.faults l.self.source;
  whole_of : whole l.self.read (g.S.Source.left l.self.source) ≡ whole l.fn.self.read (g.S.Source.left l.fn.self.source);
}

abbrev pub decreases-loop-self : goal.decreases-loop-self
decreases-loop-self g l = l.count - length l.self.buffer
