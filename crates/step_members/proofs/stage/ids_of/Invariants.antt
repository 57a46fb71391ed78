-- The identifiers of the members so far.
use Rattle.std.proofs.Common.{take}
use Rattle.step_members.specs.Stages.{AreIds}
use Rattle.step_members.proofs.stage.ids_of.Given as goal

abbrev pub invariant-loop-member : goal.invariant-loop-member
invariant-loop-member l = AreIds (take l.member-index l.names) l.ids.keys
