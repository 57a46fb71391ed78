-- The least member that differs.
use Rattle.std.proofs.Common.{map}
use Rattle.least_break.specs.Least.{IsScanned}
use Rattle.step_members.specs.Members.{HoldsAt, id_of}
use Rattle.same_notes.specs.Notes.{StoresAlike}
use Rattle.same_notes.proofs.stored.check_stored.Given as goal

abbrev pub invariant-loop-member : goal.invariant-loop-member
invariant-loop-member l = IsScanned (HoldsAt l.members (StoresAlike l.stage)) (map (id_of l.stage) l.members) l.member-index l.least
