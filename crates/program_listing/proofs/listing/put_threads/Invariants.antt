use Rattle.std.proofs.Common.{◌≤◌, take}
use Rattle.program_listing.specs.ListingText.{threads_text}
use Rattle.ports.specs.Growth.{Grows}
use Rattle.program_listing.proofs.listing.put_threads.Given as goal

-- the threads so far were put, the count has not fallen, and the rest is the same
abbrev pub invariant-loop-thread : goal.invariant-loop-thread
invariant-loop-thread g l = record {
  grows : Grows (g.S.Sink.held l.fn.out) (g.S.Sink.held l.out) (threads_text l.classes 0 (take l.thread l.program.threads));
  kept : g.S.Sink.faults l.fn.out ≤ g.S.Sink.faults l.out;
  rest : g.S.Sink.same_rest l.fn.out l.out;
}
