-- What was added, and what the rest adds.
use Rattle.std.proofs.Common.{◌≡◌, ◌++◌, drop}
use Rattle.program_graph.specs.Graph.{actions_from}
use Rattle.program_graph.proofs.actions.actions_of.Given as goal

abbrev pub invariant-loop-one : goal.invariant-loop-one
invariant-loop-one l = l.actions ++ actions_from l.node (drop l.one-index l.details) ≡ actions_from 0 l.details
