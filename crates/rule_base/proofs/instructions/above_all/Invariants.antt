use Rattle.std.proofs.Common.{◌≡◌, ◌≤◌, ◌^◌, drop, max}
use Rattle.rule_base.specs.Instructions as spec
use Rattle.rule_base.proofs.instructions.above_all.Given as goal

abbrev pub invariant-loop-slot : goal.invariant-loop-slot
invariant-loop-slot l =
    (max l.above (spec.above_all (drop l.slot-index l.slots)) ≡ spec.above_all l.slots) × (l.above ≤ 2 ^ 32)
