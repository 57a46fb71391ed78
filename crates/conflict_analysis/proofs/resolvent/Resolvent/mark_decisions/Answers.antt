use Rattle.std.proofs.Common.{inl, inr, sym, ◌∙◌, subst, arith}
use Rattle.clause_pool.specs.PoolValue.{IsIn}
use Rattle.literals.specs.Literal.{opposite_of}
use Rattle.trail.specs.Steps.{decisions_of}
use Rattle.conflict_analysis.specs.Marks.{IsMarked, oldest_steps}
use Rattle.conflict_analysis.proofs.Left.{left_more, step_in}
use Rattle.conflict_analysis.proofs.Back.{decisions_more}
use Rattle.conflict_analysis.proofs.resolvent.Resolvent.mark_decisions.Goals as goal

pub loop-at-preserved : goal.loop-at-preserved
loop-at-preserved c =
    let i = c.loop-at.invariant in
    let here = step_in c.args.trail.now.steps c.loop-at.at (omega (arith, c.loop-at-test.true, c.requires.resolvent.within)) in
    record {
      resolvent = c.mark_decision.ensures.resolvent;
      place = c.mark_decision.ensures.place ∙ i.place;
      kept = λ x m. c.mark_decision.ensures.kept x (i.kept x m);
      marked = λ x j. elim (decisions_more here.0 (oldest_steps c.loop-at.at c.args.trail.now.steps) x (subst (λ ys. IsIn x (decisions_of ys)) (left_more c.args.trail.now.steps c.loop-at.at here.0 here.1) j)) [
        | inl new ↦ subst (λ y. IsMarked c.mark_decision.new.self.marks.items (opposite_of y)) (sym new.0) (c.mark_decision.ensures.marked here.0 here.1 new.1)
        | inr old ↦ c.mark_decision.ensures.kept (opposite_of x) (i.marked x old)
      ];
    }

pub returns-clause-marked : goal.returns-clause-marked
returns-clause-marked c = λ x j. c.loop-at.invariant.marked x (subst (λ n. IsIn x (decisions_of (oldest_steps n c.args.trail.now.steps))) (omega (arith, c.loop-at.auto.at-end, c.loop-at-test.false)) j)
