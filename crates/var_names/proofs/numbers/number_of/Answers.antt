use Rattle.var_names.proofs.VariableLists.{negative-lit, positive-lit}
use Rattle.var_names.proofs.numbers.number_of.Goals as goal

pub returns-then-lit-clause-number : goal.returns-then-lit-clause-number
returns-then-lit-clause-number c = positive-lit c.place_of.new.variables.keys c.in_ok-place.field-0 c.args.lit.now c.in_ok-place.ensures.place c.if-lit.true

pub returns-else-lit-clause-number : goal.returns-else-lit-clause-number
returns-else-lit-clause-number c = negative-lit c.place_of.new.variables.keys c.in_ok-place.field-0 c.args.lit.now c.in_ok-place.ensures.place c.if-lit.false
