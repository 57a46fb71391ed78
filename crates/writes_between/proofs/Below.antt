-- The binary search among places.
use Rattle.std.proofs.Common.{◌≡◌, ◌<◌, ◌≤◌, ◌-◌, ℕ, List, Contains, get_or, length, true, false, ltb, ltb-true, ltb-false, arith, sym, inl, inr}
use Rattle.std.specs.List.Sorted.{IsNonDecreasingBy, IsPartitionPoint}
use Rattle.std.proofs.lemmas.Bool.{cases_lt}
use Rattle.std.proofs.lemmas.List.{get_or_default}
use Rattle.writes_between.specs.Places.{IsLastBelow, NoneBelow}

abbrev pub IsPoint : List ℕ → ℕ → ℕ → Type 0
IsPoint places bound i = IsPartitionPoint (λ k. ltb k bound ≡ true) (λ k. ltb k bound ≡ false) places i

pub none_below : (places : List ℕ) (bound i : ℕ) → i ≡ 0 → IsPoint places bound i → NoneBelow places bound
none_below places bound i start point k (q, inside, is) below =
    let past = ltb-false _ _ (point.1 q k (omega arith) inside) in
    omega arith

pub last_below : (places : List ℕ) (bound i x : ℕ) → IsNonDecreasingBy (λ k. k) places → 0 < i → i ≤ length places → IsPoint places bound i → x ≡ get_or places (i - 1) x → IsLastBelow places bound x
last_below places bound i x rising some within point is = record {
  there = (i - 1, omega arith, sym is);
  below = (let h = ltb-true _ _ (point.0 (i - 1) x (omega arith) (omega arith)) in omega arith);
  last = λ k there below. most k there below;
}
  where
    most : (k : ℕ) → Contains places k → k < bound → k ≤ x
    most k (q, inside, at) below = elim (cases_lt q i) [
      | inl before ↦ (let h = rising q (i - 1) k (omega arith) (omega arith) in let same = get_or_default places (i - 1) k x (omega arith) in omega arith)
      | inr past ↦ (let h = ltb-false _ _ (point.1 q k (omega arith) inside) in let never : ⊥ = omega arith in absurd never)
    ]
