-- How the texts of items add up, and what a call that failed says.
use Rattle.std.proofs.Common.{◌≡◌, ◌+◌, ◌<◌, ◌≤◌, ◌++◌, ◌∙◌, ap, subst, sym, ℕ, List, Option, Result, Ok, Err, take, drop, length, slice_index_or, arith}
use Rattle.std.specs.List.{flat_map}
use Rattle.std.specs.Result.{IsErr}
use Rattle.std.proofs.lemmas.Grind.{common_steps, flat_map-append}
use Rattle.std.proofs.lemmas.List.{take-append-drop}
use Rattle.ports.specs.Faults.{HasCause, Rose}
use Rattle.ports.specs.Growth.{Grows, GrowsByPrefix, PutsAll}
use Rattle.ports.proofs.GrowthLaws.{grows-then, prefix-of_more, prefix-then, rose-then}

-- the items up to one, and that one
pub texts-with : {X : Type 0} (f : X → List ℕ) (xs : List X) (i : ℕ) (x : X) → i < length xs → x ≡ slice_index_or xs i x
    → flat_map f (take (i + 1) xs) ≡ flat_map f (take i xs) ++ f x
texts-with f xs i x within is = grind (arith, common_steps)

-- the items up to one, that one, and those behind it
pub texts-around : {X : Type 0} (f : X → List ℕ) (xs : List X) (i : ℕ) (x : X) → i < length xs → x ≡ slice_index_or xs i x
    → flat_map f xs ≡ flat_map f (take i xs) ++ f x ++ flat_map f (drop (i + 1) xs)
texts-around f xs i x within is =
    ap (flat_map f) (sym (take-append-drop (i + 1) xs))
    ∙ flat_map-append f (take (i + 1) xs) (drop (i + 1) xs)
    ∙ ap (λ (front : List ℕ). front ++ flat_map f (drop (i + 1) xs)) (texts-with f xs i x within is)

-- a call that failed put a prefix
pub puts-failed : {A E : Type 0} (a c : Option (List ℕ)) (text : List ℕ) (result : Result A E) → IsErr result
    → GrowsByPrefix a c text → PutsAll a c result text
puts-failed a c text (Ok x) failed part = absurd (cc)
puts-failed a c text (Err x) failed part = part

-- the items up to one were put, and then a prefix of that one
pub each-failed : {A E X : Type 0} (f : X → List ℕ) (xs : List X) (i : ℕ) (x : X) (a b c : Option (List ℕ)) (result : Result A E)
    → i < length xs → x ≡ slice_index_or xs i x → IsErr result
    → Grows a b (flat_map f (take i xs)) → GrowsByPrefix b c (f x) → PutsAll a c result (flat_map f xs)
each-failed f xs i x a b c result within is failed before part =
    puts-failed a c (flat_map f xs) result failed
    (rw (texts-around f xs i x within is)
    (prefix-of_more a c (flat_map f (take i xs) ++ f x) (flat_map f (drop (i + 1) xs))
    (prefix-then a b c (flat_map f (take i xs)) (f x) before part)))

-- a later part of a call failed, and so the call has its cause
pub cause-failed : {A E : Type 0} (a b c : ℕ) (result : Result A E) → a ≤ b → b ≤ c → Rose b c → HasCause a c result
cause-failed a b c (Ok x) kept more risen = record { kept = omega arith; cause = tt }
cause-failed a b c (Err x) kept more risen = record { kept = omega arith; cause = rose-then a b c kept more risen }

-- a text was put whole, and then what a last call put of another
pub puts-then : {A E : Type 0} (a b c : Option (List ℕ)) (x y : List ℕ) (result : Result A E)
    → Grows a b x → PutsAll b c result y → PutsAll a c result (x ++ y)
puts-then a b c x y (Ok r) before last = grows-then a b c x y before last
puts-then a b c x y (Err r) before last = prefix-then a b c x y before last

-- the same of a list that is equal
module _ {X : Type 0} (f : X → List ℕ) (xs ys : List X) (same : xs ≡ ys) (a b : Option (List ℕ)) where
  pub grows-as : Grows a b (flat_map f xs) → Grows a b (flat_map f ys)
  grows-as whole = subst (λ zs. Grows a b (flat_map f zs)) same whole

  pub part-as : GrowsByPrefix a b (flat_map f xs) → GrowsByPrefix a b (flat_map f ys)
  part-as part = subst (λ zs. GrowsByPrefix a b (flat_map f zs)) same part

  pub puts-as : {A E : Type 0} (result : Result A E) → PutsAll a b result (flat_map f xs) → PutsAll a b result (flat_map f ys)
  puts-as result last = subst (λ zs. PutsAll a b result (flat_map f zs)) same last

-- four pieces one after another, the first of which was put in part
pub first-failed : {A E : Type 0} (a b : Option (List ℕ)) (x y z w : List ℕ) (result : Result A E) → IsErr result
    → GrowsByPrefix a b x → PutsAll a b result (x ++ y ++ z ++ w)
first-failed a b x y z w result failed part =
    puts-failed a b (x ++ y ++ z ++ w) result failed
    (prefix-of_more a b (x ++ y ++ z) w (prefix-of_more a b (x ++ y) z (prefix-of_more a b x y part)))

-- the second of which was put in part
pub second-failed : {A E : Type 0} (a b c : Option (List ℕ)) (x y z w : List ℕ) (result : Result A E) → IsErr result
    → Grows a b x → GrowsByPrefix b c y → PutsAll a c result (x ++ y ++ z ++ w)
second-failed a b c x y z w result failed first part =
    puts-failed a c (x ++ y ++ z ++ w) result failed
    (prefix-of_more a c (x ++ y ++ z) w (prefix-of_more a c (x ++ y) z (prefix-then a b c x y first part)))

-- the third of which was put in part
pub third-failed : {A E : Type 0} (a b c d : Option (List ℕ)) (x y z w : List ℕ) (result : Result A E) → IsErr result
    → Grows a b x → Grows b c y → GrowsByPrefix c d z → PutsAll a d result (x ++ y ++ z ++ w)
third-failed a b c d x y z w result failed first second part =
    puts-failed a d (x ++ y ++ z ++ w) result failed
    (prefix-of_more a d (x ++ y ++ z) w (prefix-then a c d (x ++ y) z (grows-then a b c x y first second) part))

-- of which the last call is the last
pub puts-four : {A E : Type 0} (a b c d e : Option (List ℕ)) (x y z w : List ℕ) (result : Result A E)
    → Grows a b x → Grows b c y → Grows c d z → PutsAll d e result w → PutsAll a e result (x ++ y ++ z ++ w)
puts-four a b c d e x y z w result first second third last =
    puts-then a d e (x ++ y ++ z) w result
    (grows-then a c d (x ++ y) z (grows-then a b c x y first second) third) last
