-- The members before the place.
use Rattle.step_members.specs.Members.{AreMembers}
use Rattle.step_members.proofs.table.members.Given as goal

abbrev pub invariant-loop-own : goal.invariant-loop-own
invariant-loop-own l = AreMembers l.stage l.own l.ms.items
