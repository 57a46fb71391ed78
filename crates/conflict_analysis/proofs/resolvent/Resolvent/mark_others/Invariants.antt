use Rattle.std.proofs.Common.{◌≡◌, ℕ, ◌<◌, get_or}
use Rattle.conflict_analysis.specs.Marks.{IsMarked}
use Rattle.conflict_analysis.specs.Resolvents.{IsResolvent, KeepsMarks}
use Rattle.conflict_analysis.proofs.resolvent.Resolvent.mark_others.Given as goal

-- the other literals so far are marked
abbrev pub invariant-loop-literal : goal.invariant-loop-literal
invariant-loop-literal l = record {
  resolvent : IsResolvent l.self l.trail;
  place : l.self.place ≡ l.initial.self.place;
  kept : KeepsMarks l.initial.self l.self;
  marked : (k : ℕ) → k < l.literal-index → (get_or l.literals k 0 ≡ l.but → ⊥) → IsMarked l.self.marks.items (get_or l.literals k 0);
}
