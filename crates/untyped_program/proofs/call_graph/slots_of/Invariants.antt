-- The slots of the methods so far.
use Rattle.std.proofs.Common.{◌≡◌, map, take}
use Rattle.untyped_program.specs.Edges.{cut}
use Rattle.untyped_program.specs.Limits.{slots_of}
use Rattle.untyped_program.proofs.call_graph.slots_of.Given as goal

abbrev pub invariant-loop-method : goal.invariant-loop-method
invariant-loop-method l = l.slots.items ≡ map (λ m. cut (slots_of m)) (take l.method-index l.methods)
