-- What was counted, and what the rest adds.
use Rattle.std.proofs.Common.{◌≡◌, ◌≤◌, ◌+◌, drop}
use Rattle.program_graph.specs.Limits as spec
use Rattle.program_graph.proofs.limits.multiplications_among.Given as goal

abbrev pub invariant-loop-node : goal.invariant-loop-node
invariant-loop-node l = (l.count + spec.multiplications_among (drop l.node-index l.nodes) ≡ spec.multiplications_among l.nodes) × (l.count ≤ l.node-index)
