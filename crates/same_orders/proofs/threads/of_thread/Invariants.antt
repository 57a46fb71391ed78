-- The members of the thread so far.
use Rattle.same_orders.proofs.Rows.{AreKept}
use Rattle.same_orders.proofs.threads.of_thread.Given as goal

abbrev pub invariant-loop-member : goal.invariant-loop-member
invariant-loop-member l = AreKept l.stage l.thread l.members l.member-index l.ms.items
