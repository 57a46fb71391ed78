-- The marked fields are the variables.
use Rattle.std.proofs.Common.{◌≡◌, sym, ◌∙◌, subst}
use Rattle.std.proofs.lemmas.Result.{IfOk-weaker}
use Rattle.untyped_program.specs.Tables.{AreMarks, AreNumbers, TellsNumbers, marked_from}
use Rattle.untyped_program.specs.Variables.{variables_of}
use Rattle.untyped_program.specs.declared.numbers.Fields.{Fields}
use Rattle.untyped_program.proofs.FieldNumbers.{all_variables, tells}
use Rattle.untyped_program.proofs.fields.fields_of.Goals as goal

pub returns-clause-variables : goal.returns-clause-variables
returns-clause-variables c =
    let classes = c.args.classes.now in
    let methods = c.args.methods.now in
    let rows = c.deref.result.now in
    let are : AreMarks classes methods rows = subst (AreMarks classes methods) (sym c.deref.ensures.value) c.in_ok-rows.ensures in
    IfOk-weaker c.number_fields.result (λ (n : Fields). n.variables ≡ marked_from rows classes) (λ (n : Fields). n.variables ≡ variables_of classes methods)
    (λ n is. is ∙ all_variables classes methods rows are) c.number_fields.ensures.variables

pub returns-clause-numbers : goal.returns-clause-numbers
returns-clause-numbers c =
    let classes = c.args.classes.now in
    let methods = c.args.methods.now in
    let rows = c.deref.result.now in
    let are : AreMarks classes methods rows = subst (AreMarks classes methods) (sym c.deref.ensures.value) c.in_ok-rows.ensures in
    IfOk-weaker c.number_fields.result (λ (n : Fields). AreNumbers classes rows n.numbers.items) (λ (n : Fields). TellsNumbers classes methods n.numbers.items)
    (λ n counted. tells classes methods rows are n.numbers.items counted) c.number_fields.ensures.numbers
