use Rattle.std.proofs.Common.{◌≡◌, map}
use Rattle.reached_methods.proofs.reaching.methods_of.Given as goal

abbrev pub invariant-loop-surveyed : goal.invariant-loop-surveyed
invariant-loop-surveyed l = l.methods ≡ map (λ s. s.method) l.yielded
