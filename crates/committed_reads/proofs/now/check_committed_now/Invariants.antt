-- The least member that breaks the condition.
use Rattle.std.proofs.Common.{map}
use Rattle.least_break.specs.Least.{IsScanned}
use Rattle.step_members.specs.Members.{HoldsAt, id_of}
use Rattle.committed_reads.specs.Now.{ReadsCommitted}
use Rattle.committed_reads.proofs.now.check_committed_now.Given as goal

abbrev pub invariant-loop-member : goal.invariant-loop-member
invariant-loop-member l = IsScanned (HoldsAt l.members (ReadsCommitted l.stage l.earlier)) (map (id_of l.stage) l.members) l.member-index l.least
