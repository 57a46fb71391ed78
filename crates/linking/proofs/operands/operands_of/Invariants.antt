-- What the instructions so far name, and what the others name, make the whole.
use Rattle.std.proofs.Common.{◌≡◌, ◌++◌, drop}
use Rattle.linking.specs.Operands.{operands_of}
use Rattle.linking.proofs.operands.operands_of.Given as goal

abbrev pub invariant-loop-place : goal.invariant-loop-place
invariant-loop-place l =
    l.operands ++ operands_of (drop l.place l.listing) (drop l.place l.symbols) (drop l.place l.states) ≡ operands_of l.listing l.symbols l.states
