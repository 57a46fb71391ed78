use Rattle.std.proofs.Common.{◌≡◌, inl, inr, subst}
use Rattle.trail.specs.Steps.{literals_of, HasValue}
use Rattle.trail.specs.declared.step.Value.{Value}
use Rattle.propagation.proofs.Consistency.{consistent}
use Rattle.learning_steps.proofs.forgetting.is_reason_of.Goals as goal

pub returns-in-Open : goal.returns-in-Open
returns-in-Open c =
    let trail = c.args.trail.now in
    let holds : (v : Value) → c.value.result ≡ v → HasValue (literals_of trail.steps) c.args.literal v = λ v is. subst (HasValue (literals_of trail.steps) c.args.literal) is c.value.ensures.value in
    record {
      reason = λ h. absurd (cc);
      all = λ is_true is. elim c.in-Open.is [
        | inl open_value ↦ absurd ((holds _ open_value).not_true is_true)
        | inr false_value ↦ absurd (consistent trail.variables trail.steps c.requires.sound.steps c.args.literal is_true (holds _ false_value))
      ];
    }
