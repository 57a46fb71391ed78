-- The keys so far are seen, and no two of them are equal.
use Rattle.std.proofs.Common.{◌≡◌, false, take, AllPairs}
use Rattle.class_profile.proofs.distinct.are_distinct.Given as goal

abbrev pub invariant-loop-key : goal.invariant-loop-key
invariant-loop-key g l = record {
  seen : l.seen.keys ≡ take l.key-index l.keys;
  apart : AllPairs (λ a b. g.K.PartialEq.eq b a ≡ false) (take l.key-index l.keys);
}
