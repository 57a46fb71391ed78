-- The least external action that isn't committed.
use Rattle.least_break.specs.Least.{IsScanned}
use Rattle.external_actions.specs.Last.{IsExternalCommitted}
use Rattle.external_actions.proofs.check.check_external.Given as goal

abbrev pub invariant-loop-at : goal.invariant-loop-at
invariant-loop-at l = IsScanned (IsExternalCommitted l.stage) l.stage.own.now.flat.ids.keys l.at l.least
