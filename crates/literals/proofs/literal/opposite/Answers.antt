use Rattle.std.proofs.Common.{sym, ◌∙◌, ap}
use Rattle.literals.specs.Literal.{variable_of, opposite_of}
use Rattle.literals.proofs.Opposites.{even_opposite, odd_opposite, opposite-opposite, opposite-variable}
use Rattle.literals.proofs.literal.opposite.Goals as goal

pub returns-then-literal-eq0-clause-opposite : goal.returns-then-literal-eq0-clause-opposite
returns-then-literal-eq0-clause-opposite c = sym (even_opposite c.args.literal c.if-literal-eq0.true)

pub returns-then-literal-eq0-clause-back : goal.returns-then-literal-eq0-clause-back
returns-then-literal-eq0-clause-back c = ap opposite_of (sym (even_opposite c.args.literal c.if-literal-eq0.true)) ∙ opposite-opposite c.args.literal

pub returns-then-literal-eq0-clause-same_variable : goal.returns-then-literal-eq0-clause-same_variable
returns-then-literal-eq0-clause-same_variable c = ap variable_of (sym (even_opposite c.args.literal c.if-literal-eq0.true)) ∙ opposite-variable c.args.literal

pub returns-else-literal-eq0-clause-opposite : goal.returns-else-literal-eq0-clause-opposite
returns-else-literal-eq0-clause-opposite c = sym (odd_opposite c.args.literal c.if-literal-eq0.false)

pub returns-else-literal-eq0-clause-back : goal.returns-else-literal-eq0-clause-back
returns-else-literal-eq0-clause-back c = ap opposite_of (sym (odd_opposite c.args.literal c.if-literal-eq0.false)) ∙ opposite-opposite c.args.literal

pub returns-else-literal-eq0-clause-same_variable : goal.returns-else-literal-eq0-clause-same_variable
returns-else-literal-eq0-clause-same_variable c = ap variable_of (sym (odd_opposite c.args.literal c.if-literal-eq0.false)) ∙ opposite-variable c.args.literal
