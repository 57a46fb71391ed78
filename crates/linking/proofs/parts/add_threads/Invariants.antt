-- The threads so far.
use Rattle.std.proofs.Common.{◌≡◌, ◌++◌, take}
use Rattle.linking.proofs.parts.add_threads.Given as goal

abbrev pub invariant-loop-thread : goal.invariant-loop-thread
invariant-loop-thread l = l.program ≡ record l.initial.program { threads = l.initial.program.threads ++ take l.thread-index l.threads }
