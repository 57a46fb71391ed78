use Rattle.std.proofs.Common.{◌≡◌}
use Rattle.rule_base.specs.Rest.{rest, work}
use Rattle.rule_base.proofs.odometer.InstancesIterator.next.Given as goal

abbrev pub invariant-loop-self : goal.invariant-loop-self
invariant-loop-self l = rest l.self ≡ rest l.initial.self

abbrev pub decreases-loop-self : goal.decreases-loop-self
decreases-loop-self l = work l.self
