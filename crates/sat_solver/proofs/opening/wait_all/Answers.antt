use Rattle.std.proofs.Common.{◌∙◌, inl, inr, arith, refl, subst, sym}
use Rattle.clause_pool.specs.PoolValue.{IsIn}
use Rattle.sat_solver.proofs.Added.{earlier-or-last}
use Rattle.sat_solver.proofs.opening.wait_all.Goals as goal

pub loop-variable-init : goal.loop-variable-init
loop-variable-init c = record { waits = λ variable low. absurd (omega (arith, low)); variables = refl }

pub loop-variable-preserved : goal.loop-variable-preserved
loop-variable-preserved c = record {
  waits = λ variable low. elim (earlier-or-last variable c.loop-variable.variable low) [
    | inl earlier ↦ c.put_back.ensures.others variable (c.loop-variable.invariant.waits variable earlier)
    | inr last ↦ subst (λ v. IsIn v c.put_back.new.self.waiting) (sym last) c.put_back.ensures.waits
  ];
  variables = c.put_back.ensures.variables ∙ c.loop-variable.invariant.variables;
}
