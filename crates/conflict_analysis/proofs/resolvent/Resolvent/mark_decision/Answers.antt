use Rattle.std.proofs.Common.{refl, sym, ◌∙◌, ap, subst}
use Rattle.clause_pool.specs.PoolValue.{IsIn}
use Rattle.literals.specs.Literal.{opposite_of}
use Rattle.trail.specs.Steps.{literals_of}
use Rattle.trail.specs.declared.step.Step.{Step}
use Rattle.conflict_analysis.specs.Marks.{IsMarked}
use Rattle.conflict_analysis.specs.Resolvents.{left_of}
use Rattle.conflict_analysis.proofs.Left.{step_unique, step_in_left, decided}
use Rattle.conflict_analysis.proofs.resolvent.Resolvent.mark_decision.Goals as goal

pub mark-requires-clause-is_false : goal.mark-requires-clause-is_false
mark-requires-clause-is_false c =
    subst (λ x. IsIn x (literals_of (left_of c.args.self.now c.args.trail.now))) (sym c.opposite.ensures.back)
    (step_in_left c.args.trail.now.steps c.args.at c.args.self.now.place c.step-step.result c.step-step.ensures c.requires.left c.requires.resolvent.within)

pub returns-in-Decision-clause-marked : goal.returns-in-Decision-clause-marked
returns-in-Decision-clause-marked c = λ step at is.
    subst (IsMarked c.mark.new.self.marks.items) (c.opposite.ensures.opposite ∙ ap (λ (s : Step). opposite_of s.literal) (step_unique c.args.trail.now.steps c.args.at c.step-step.result step c.step-step.ensures at)) c.mark.ensures.marked

pub returns-in_default : goal.returns-in_default
returns-in_default c = record {
  resolvent = c.requires.resolvent;
  marked = λ step at is. absurd (c.in_default.not-Decision (ap (λ (s : Step). s.reason) (step_unique c.args.trail.now.steps c.args.at c.step-step.result step c.step-step.ensures at) ∙ decided step.reason is));
  kept = λ x m. m;
  place = refl;
}
