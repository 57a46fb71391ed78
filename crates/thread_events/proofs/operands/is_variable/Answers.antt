-- The names are those of the variable.
use Rattle.std.proofs.Common.{◌↔◌, IsTrue, Some, ap, sym, ◌∙◌, subst, slice_get}
use Rattle.std.proofs.lemmas.Option.{slice_get-get_or}
use Rattle.action_orders.specs.declared.action.ActionOperand.{ActionOperand}
use Rattle.thread_events.specs.Named.{NamesVariable}
use Rattle.thread_events.proofs.Fitting.{named}
use Rattle.thread_events.proofs.operands.is_variable.Goals as goal

pub returns : goal.returns
returns c =
    subst (λ (o : ActionOperand). IsTrue c.same-2.result ↔ NamesVariable c.args.program.now o c.args.number) (sym c.in-Variable.is)
    (named c.args.program.now c.args.number c.in-Some.variable.now c.in-Variable.class c.in-Variable.name c.same-2.result
    (ap (λ vs. slice_get vs c.args.number) (sym c.variables.ensures.value) ∙ slice_get-get_or c.variables.result.now c.args.number c.in-Some.variable.now c.in-Some.ensures.lookup.3.0 ∙ ap Some (sym c.in-Some.ensures.lookup.1))
    (c.same.ensures.0 c.if-not-same.false) c.same-2.ensures)
