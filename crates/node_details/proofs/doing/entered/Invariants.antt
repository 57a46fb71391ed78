-- What was counted, and what the rest adds.
use Rattle.std.proofs.Common.{◌≡◌, ◌+◌, drop}
use Rattle.node_details.specs.Actions as spec
use Rattle.node_details.proofs.doing.entered.Given as goal

abbrev pub invariant-loop-one : goal.invariant-loop-one
invariant-loop-one l = l.times + spec.entered l.fn.monitor (drop l.one-index l.held) ≡ spec.entered l.fn.monitor l.held
