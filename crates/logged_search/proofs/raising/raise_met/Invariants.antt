use Rattle.logged_search.specs.Raised.{IsRaised}
use Rattle.logged_search.proofs.raising.raise_met.Given as goal

abbrev pub invariant-loop-literal : goal.invariant-loop-literal
invariant-loop-literal l = IsRaised l.initial.order l.order

abbrev pub invariant-loop-hint : goal.invariant-loop-hint
invariant-loop-hint l = IsRaised l.fn.order l.order
