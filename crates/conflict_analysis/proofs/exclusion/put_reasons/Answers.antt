use Rattle.std.proofs.Common.{◌++◌, length, sym, ◌∙◌, ap, arith}
use Rattle.std.proofs.lemmas.List.{length-append}
use Rattle.conflict_analysis.specs.Exclusions.{hints_of_reason, reason_hints}
use Rattle.conflict_analysis.proofs.Left.{left_more}
use Rattle.conflict_analysis.proofs.Excluding.{few_hints}
use Rattle.conflict_analysis.proofs.exclusion.put_reasons.Goals as goal

pub loop-place-preserved : goal.loop-place-preserved
loop-place-preserved c =
    let i = c.loop-place.invariant in
    let s = c.step.result in
    record {
      items = c.put_reason.ensures.items ∙ ap (λ xs. xs ++ hints_of_reason s.reason s.literal) i.items
          ∙ ap reason_hints (sym (left_more c.args.trail.now.steps c.loop-place.place s c.step.ensures));
      few = omega (arith, ap length c.put_reason.ensures.items, length-append c.loop-place.hints.items (hints_of_reason s.reason s.literal), few_hints s.reason s.literal, i.few);
      capacity = c.put_reason.ensures.capacity ∙ i.capacity;
    }
