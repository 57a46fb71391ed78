-- The last of the members so far.
use Rattle.external_actions.proofs.Lasting.{AreLastAmong}
use Rattle.external_actions.proofs.last.LastCommitted.of.Given as goal

abbrev pub invariant-loop-member : goal.invariant-loop-member
invariant-loop-member l = AreLastAmong l.stage l.members l.member-index l.places
