use Rattle.std.proofs.Common.{◌≡◌, ◌++◌, drop, length}
use Rattle.rule_base.specs.Naming.{numbers}
use Rattle.rule_base.proofs.naming.choices_of.Given as goal

abbrev pub invariant-loop-arg : goal.invariant-loop-arg
invariant-loop-arg l =
    (numbers l.choices ++ drop l.arg-index l.arg-items ≡ l.arg-items) × (length l.choices ≡ l.arg-index)
