-- The actions so far are the events.
use Rattle.thread_events.proofs.Matched.{HaveBefore}
use Rattle.thread_events.proofs.matching.have_events.Given as goal

abbrev pub invariant-loop-at : goal.invariant-loop-at
invariant-loop-at l = HaveBefore l.orders.flat.program.now l.orders.flat.execution.now l.part l.events l.at
