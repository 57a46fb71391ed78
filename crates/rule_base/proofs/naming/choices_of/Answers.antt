use Rattle.std.proofs.Common.{◌∙◌}
use Rattle.rule_base.proofs.Named.{number_at}
use Rattle.rule_base.proofs.naming.choices_of.Goals as goal

pub returns-in-D-clause-none : goal.returns-in-D-clause-none
returns-in-D-clause-none c = λ choices e.
    let p = c.as_slice-arg-items.ensures.value ∙ e in number_at choices c.loop-arg.arg-index (rw p at c.in-D.is)
