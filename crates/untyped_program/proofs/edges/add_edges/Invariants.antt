-- The calls of the symbols so far.
use Rattle.std.proofs.Common.{◌≡◌, ◌++◌, take}
use Rattle.std.specs.List.{filter_map}
use Rattle.untyped_program.specs.Edges.{edge_of}
use Rattle.untyped_program.proofs.edges.add_edges.Given as goal

abbrev pub invariant-loop-symbol : goal.invariant-loop-symbol
invariant-loop-symbol l = l.edges.items ≡ l.initial.edges.items ++ filter_map (edge_of l.methods l.caller) (take l.symbol-index l.symbols)
