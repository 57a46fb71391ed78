-- The last places of the entries so far.
use Rattle.sync_agreement.specs.Latest.{AreLatest}
use Rattle.sync_agreement.proofs.placed.Placed.latest.Given as goal

abbrev pub invariant-loop-at : goal.invariant-loop-at
invariant-loop-at l = AreLatest l.self.execution.now l.gate l.at l.latest
