use Rattle.std.proofs.Common.{◌≡◌, ◌++◌, drop, length}
use Rattle.rule_base.specs.Naming.{numbers}
use Rattle.rule_base.proofs.naming.rule_of.Given as goal

abbrev pub invariant-loop-at : goal.invariant-loop-at
invariant-loop-at l =
    (l.args ++ numbers (drop l.at l.instance.choices) ≡ numbers l.instance.choices) × (length l.args ≡ l.at)
