-- The calls of the methods so far.
use Rattle.std.proofs.Common.{◌≡◌, ◌++◌, drop}
use Rattle.untyped_program.specs.Edges.{edges_from}
use Rattle.untyped_program.proofs.edges.edges_of.Given as goal

abbrev pub invariant-loop-place : goal.invariant-loop-place
invariant-loop-place l = l.edges.items ++ edges_from l.methods l.place (drop l.place l.methods) ≡ edges_from l.methods 0 l.methods
