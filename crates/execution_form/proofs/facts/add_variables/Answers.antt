-- One more item.
use Rattle.std.proofs.Common.{◌∙◌, Some, ap, ap₂, sym, subst}
use Rattle.std.proofs.lemmas.Option.{slice_get-get_or}
use Rattle.entry_tables.specs.Added.{IsAdded}
use Rattle.entry_tables.proofs.Adding.{added_more}
use Rattle.execution_form.specs.Facts.{HasVariable, stated, variable_of}
use Rattle.execution_form.proofs.Gathering.{to_the_end}
use Rattle.execution_form.proofs.facts.add_variables.Goals as goal

pub loop-variable-preserved : goal.loop-variable-preserved
loop-variable-preserved c = added_more (stated c.args.facts.now) (stated c.loop-variable.facts) (stated c.add.new.self) variable_of c.args.variables.now c.loop-variable.variable-index c.variable-item.result
    (slice_get-get_or c.args.variables.now c.loop-variable.variable-index _ c.loop-variable-test.true ∙ ap Some (sym c.variable-item.is)) c.loop-variable.invariant
    (subst (λ o. IsAdded (stated c.loop-variable.facts) o (stated c.add.new.self)) (ap₂ (λ class name. Some (HasVariable class name)) c.as_slice.ensures.value c.as_slice-in-loop-variable.ensures.value) c.in_ok-add.ensures)

pub returns : goal.returns
returns c = to_the_end (stated c.args.facts.now) variable_of c.args.variables.now c.loop-variable.variable-index (stated c.loop-variable.facts) c.loop-variable-test.false c.loop-variable.invariant
