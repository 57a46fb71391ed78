use Rattle.std.proofs.Common.{◌≡◌, ℕ, ◌<◌, get_or}
use Rattle.conflict_analysis.specs.Marks.{IsMarked}
use Rattle.conflict_analysis.specs.Resolvents.{IsResolvent}
use Rattle.conflict_analysis.proofs.resolvent.Resolvent.mark_all.Given as goal

-- the literals so far are marked
abbrev pub invariant-loop-literal : goal.invariant-loop-literal
invariant-loop-literal l = record {
  resolvent : IsResolvent l.self l.trail;
  place : l.self.place ≡ l.initial.self.place;
  marked : (k : ℕ) → k < l.literal-index → IsMarked l.self.marks.items (get_or l.literals k 0);
}
