-- The first two clauses, and those behind them.
use Rattle.std.proofs.Common.{OnOk, IfErr, subst, sym}
use Rattle.std.proofs.lemmas.Result.{on_ok_weaker}
use Rattle.program.specs.Program.{Prog}
use Rattle.program.specs.Straight.{AreApart}
use Rattle.action_orders.specs.Runs.{IsWithin}
use Rattle.well_formed.specs.Refusals.{IsRefusal}
use Rattle.well_formed.proofs.Composing.{carried}
use Rattle.well_formed.proofs.check.check_execution.Goals as goal

pub orders-requires : goal.orders-requires
orders-requires c = c.in_ok-at-2.ensures.ordered c.in_default-2.is

pub check_ordered-requires-clause-apart : goal.check_ordered-requires-clause-apart
check_ordered-requires-clause-apart c = subst (λ (p : Prog). AreApart p.variables) (sym c.in_ok-orders.ensures.of_program) c.requires.apart

pub returns-clause-within : goal.returns-clause-within
returns-clause-within c = carried (λ p e. OnOk c.check_ordered.result (IsWithin p e c.args.bounds.now.jumps c.args.bounds.now.width)) c.in_ok-orders.orders.flat.program.now c.args.program.now
    c.in_ok-orders.orders.flat.execution.now c.args.execution.now c.in_ok-orders.ensures.of_program c.in_ok-orders.ensures.of_execution c.check_ordered.ensures.within

pub returns-clause-refused : goal.returns-clause-refused
returns-clause-refused c = carried (λ p e. IfErr c.check_ordered.result (IsRefusal p e c.args.bounds.now)) c.in_ok-orders.orders.flat.program.now c.args.program.now
    c.in_ok-orders.orders.flat.execution.now c.args.execution.now c.in_ok-orders.ensures.of_program c.in_ok-orders.ensures.of_execution c.check_ordered.ensures.refused

pub returns-clause-ordered : goal.returns-clause-ordered
returns-clause-ordered c = on_ok_weaker c.check_ordered.result (λ h. c.in_ok-at-2.ensures.ordered c.in_default-2.is) c.check_ordered.ensures.well_formed
