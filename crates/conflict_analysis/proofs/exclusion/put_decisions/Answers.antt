use Rattle.std.proofs.Common.{◌++◌, length, map, reverse, sym, ◌∙◌, ap, arith}
use Rattle.std.proofs.lemmas.List.{length-append}
use Rattle.literals.specs.Literal.{opposite_of}
use Rattle.trail.specs.Steps.{decisions_of}
use Rattle.conflict_analysis.specs.Marks.{oldest_steps}
use Rattle.conflict_analysis.specs.Exclusions.{opposites_of_step}
use Rattle.conflict_analysis.proofs.Left.{left_more}
use Rattle.conflict_analysis.proofs.Excluding.{more_decisions, few_opposites}
use Rattle.conflict_analysis.proofs.exclusion.put_decisions.Goals as goal

pub loop-place-preserved : goal.loop-place-preserved
loop-place-preserved c =
    let i = c.loop-place.invariant in
    let older = oldest_steps c.loop-place.place c.args.trail.now.steps in
    record {
      items = c.put_decision.ensures.items ∙ ap (λ xs. xs ++ opposites_of_step c.step.result) i.items ∙ sym (more_decisions c.step.result older)
          ∙ ap (λ ys. reverse (map opposite_of (decisions_of ys))) (sym (left_more c.args.trail.now.steps c.loop-place.place c.step.result c.step.ensures));
      few = omega (arith, ap length c.put_decision.ensures.items, length-append c.loop-place.literals.items (opposites_of_step c.step.result), few_opposites c.step.result, i.few);
      capacity = c.put_decision.ensures.capacity ∙ i.capacity;
    }
