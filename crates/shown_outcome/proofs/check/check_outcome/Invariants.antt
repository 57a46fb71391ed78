-- The threads so far are shown.
use Rattle.shown_outcome.specs.Shown.{AreShown}
use Rattle.shown_outcome.proofs.check.check_outcome.Given as goal

abbrev pub invariant-loop-at : goal.invariant-loop-at
invariant-loop-at l = AreShown l.orders.flat.program.now l.orders.flat.execution.now l.outcome l.at
