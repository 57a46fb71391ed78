-- The numbers of the members so far.
use Rattle.std.proofs.Common.{take}
use Rattle.committed_reads.specs.Defaults.{AreDefaults}
use Rattle.committed_reads.proofs.defaults.default_numbers.Given as goal

abbrev pub invariant-loop-member : goal.invariant-loop-member
invariant-loop-member l = AreDefaults l.orders (take l.member-index l.names) l.numbers.keys
