use Rattle.std.proofs.Common.{◌≡◌, true, false, sym, subst, refl, arith}
use Rattle.literals.specs.Literal.{variable_of}
use Rattle.literals.specs.Propagation.{IsTrueIn}
use Rattle.literals.proofs.Members.{place-IsIn}
use Rattle.trail.specs.Steps.{literals_of, reason_at}
use Rattle.trail.specs.declared.step.Reason.TheVariants.{Clause}
use Rattle.learning_steps.proofs.Left.{reason_in, reason_at_member}
use Rattle.learning_steps.proofs.forgetting.is_reason.Goals as goal

pub returns-then-is_reason_of : goal.returns-then-is_reason_of
returns-then-is_reason_of c = ((λ is. reason_in c.args.trail.now.steps _ c.args.clause (c.if-is_reason_of.ensures.reason refl).1), (λ reason. refl))

pub returns : goal.returns
returns c = (
  λ is. absurd (let e : false ≡ true = is in cc),
  λ reason.
      let steps = c.args.trail.now.steps in
      let ls = c.lits-literal-items.result.now in
      let at = reason_at_member c.args.trail.now.variables c.args.pool.now.clauses steps c.args.clause ls c.requires.fit.trail_sound.steps c.requires.fit.reasons c.lits-literal-items.ensures.clause reason in
      let place = place-IsIn ls at.literal at.member in
      absurd (c.loop-literal.invariant place.0 (omega (arith, place.1, c.loop-literal-test.false))
      (subst (IsTrueIn (literals_of steps)) (sym place.2) at.is_true)
      (subst (λ x. reason_at steps (variable_of x) ≡ Clause c.args.clause) (sym place.2) at.reason)),
)
