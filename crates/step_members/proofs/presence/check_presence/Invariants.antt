-- The least action that isn't there.
use Rattle.least_break.specs.Least.{IsScanned}
use Rattle.step_members.proofs.Present.{IsPresentAt}
use Rattle.step_members.proofs.presence.check_presence.Given as goal

abbrev pub invariant-loop-id : goal.invariant-loop-id
invariant-loop-id l = IsScanned (IsPresentAt l.stage) l.ids l.id-index l.least
