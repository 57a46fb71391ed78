-- The members are the default writes of the variables up to the index.
use Rattle.straight_sequence.proofs.DefaultOrder.{AreFirst}
use Rattle.straight_sequence.proofs.defaults.default_writes.Given as goal

abbrev pub invariant-loop-variable : goal.invariant-loop-variable
invariant-loop-variable l = AreFirst l.variable-items l.variable-index l.members.items
