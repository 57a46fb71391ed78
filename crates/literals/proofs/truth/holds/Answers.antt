use Rattle.std.proofs.Common.{length}
use Rattle.literals.proofs.truth.holds.Goals as goal

pub bounds-values-variable : goal.bounds-values-variable
bounds-values-variable c = c.variable.ensures.below (length c.args.values.now) c.requires
