-- The places so far.
use Rattle.std.proofs.Common.{◌≡◌, ◌∷◌, take}
use Rattle.code_paths.proofs.hops.behind.Given as goal

abbrev pub invariant-loop-other : goal.invariant-loop-other
invariant-loop-other l = l.places ≡ l.fn.first ∷ take l.other-index l.others
