use Rattle.std.proofs.Common.{◌≡◌}
use Rattle.conflict_analysis.specs.Resolvents.{IsResolvent, KeepsEnd}
use Rattle.conflict_analysis.proofs.resolvent.Resolvent.newest_marked.Given as goal

abbrev pub invariant-loop-literal : goal.invariant-loop-literal
invariant-loop-literal l = record {
  resolvent : IsResolvent l.self l.trail;
  one : l.self.pending ≡ 1;
  ends : KeepsEnd l.initial.self l.self l.trail;
}

abbrev pub decreases-loop-literal : goal.decreases-loop-literal
decreases-loop-literal l = l.self.place
