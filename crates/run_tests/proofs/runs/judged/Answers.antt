-- The execution meets the first two clauses.
use Rattle.std.proofs.Common.{sym, ◌∙◌, subst}
use Rattle.action_orders.specs.Spelling.{IsKept}
use Rattle.action_orders.specs.WellFormed.{AgreesAt, FormAt}
use Rattle.run_tests.proofs.Judging.{each_meets}
use Rattle.run_tests.proofs.runs.judged.Goals as goal

pub orders-requires : goal.orders-requires
orders-requires g c =
    let kept = subst IsKept c.execution.view_is c.execution.invariant in
    record {
      shape = kept.shape;
      spelt = kept.spelt;
      form = each_meets (FormAt c.in_ok-program.program c.in_ok-execution.execution) c.in_ok-check_form.field-0 (sym c.is_some.ensures ∙ c.if-is_some.false) c.in_ok-check_form.ensures;
      agrees = each_meets (AgreesAt c.in_ok-program.program c.in_ok-execution.execution) c.in_ok-check_agreement.field-0 (sym c.is_some-2.ensures ∙ c.if-is_some-2.false) c.in_ok-check_agreement.ensures.least;
    }
