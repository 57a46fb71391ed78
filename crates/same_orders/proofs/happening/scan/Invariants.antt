-- The least member that differs.
use Rattle.std.proofs.Common.{map}
use Rattle.least_break.specs.Least.{IsScanned}
use Rattle.step_members.specs.Members.{id_of}
use Rattle.same_orders.specs.Scanning.{AreAllAlikeAt}
use Rattle.same_orders.proofs.happening.scan.Given as goal

abbrev pub invariant-loop-member : goal.invariant-loop-member
invariant-loop-member l = IsScanned (AreAllAlikeAt l.stage l.members l.line.members.items) (map (id_of l.stage) l.members) l.member-index l.least
