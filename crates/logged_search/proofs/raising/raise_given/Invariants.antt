use Rattle.std.proofs.Common.{◌≡◌}
use Rattle.logged_search.proofs.raising.raise_given.Given as goal

-- nothing was raised so far
abbrev pub invariant-loop-literal : goal.invariant-loop-literal
invariant-loop-literal l = l.order ≡ l.initial.order
