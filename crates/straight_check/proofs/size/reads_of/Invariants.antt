-- The reads so far and those that are left make all.
use Rattle.std.proofs.Common.{◌≡◌, ◌≤◌, ◌+◌, drop}
use Rattle.straight_check.specs.StraightProgram.{reads_of}
use Rattle.straight_check.proofs.size.reads_of.Given as goal

abbrev pub invariant-loop-place : goal.invariant-loop-place
invariant-loop-place l = record {
  all : l.count + reads_of (drop l.place l.listing) (drop l.place l.operands) ≡ reads_of l.listing l.operands;
  few : l.count ≤ l.place;
}
