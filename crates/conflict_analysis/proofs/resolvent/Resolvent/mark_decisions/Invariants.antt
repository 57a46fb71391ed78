use Rattle.std.proofs.Common.{◌≡◌, ℕ}
use Rattle.clause_pool.specs.PoolValue.{IsIn}
use Rattle.literals.specs.Literal.{opposite_of}
use Rattle.trail.specs.Steps.{decisions_of}
use Rattle.conflict_analysis.specs.Marks.{IsMarked, oldest_steps}
use Rattle.conflict_analysis.specs.Resolvents.{IsResolvent, KeepsMarks}
use Rattle.conflict_analysis.proofs.resolvent.Resolvent.mark_decisions.Given as goal

-- the opposites of the decisions so far are marked
abbrev pub invariant-loop-at : goal.invariant-loop-at
invariant-loop-at l = record {
  resolvent : IsResolvent l.self l.trail;
  place : l.self.place ≡ l.initial.self.place;
  kept : KeepsMarks l.initial.self l.self;
  marked : (x : ℕ) → IsIn x (decisions_of (oldest_steps l.at l.trail.steps)) → IsMarked l.self.marks.items (opposite_of x);
}
