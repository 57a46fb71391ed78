use Rattle.std.proofs.Common.{◌≡◌, length}
use Rattle.reached_methods.proofs.components.components_of.Given as goal

abbrev pub invariant-loop-method-2 : goal.invariant-loop-method-2
invariant-loop-method-2 l = length l.numbers.items ≡ l.method
