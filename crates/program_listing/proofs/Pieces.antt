-- How two or three pieces that are put one after another add up.
use Rattle.std.proofs.Common.{◌++◌, ℕ, List, Option, Result}
use Rattle.std.specs.Result.{IsErr}
use Rattle.ports.specs.Growth.{Grows, GrowsByPrefix, PutsAll}
use Rattle.ports.proofs.GrowthLaws.{grows-then, prefix-of_more, prefix-then}
use Rattle.sequence_text.proofs.TextLaws.{puts-failed, puts-then}

-- of two the first was put in part
pub first-of_two-failed : {A E : Type 0} (a b : Option (List ℕ)) (x y : List ℕ) (result : Result A E) → IsErr result
    → GrowsByPrefix a b x → PutsAll a b result (x ++ y)
first-of_two-failed a b x y result failed part = puts-failed a b (x ++ y) result failed (prefix-of_more a b x y part)

-- of three the second was put in part
pub second-of_three-failed : {A E : Type 0} (a b c : Option (List ℕ)) (x y z : List ℕ) (result : Result A E) → IsErr result
    → Grows a b x → GrowsByPrefix b c y → PutsAll a c result (x ++ y ++ z)
second-of_three-failed a b c x y z result failed first part =
    puts-failed a c (x ++ y ++ z) result failed (prefix-of_more a c (x ++ y) z (prefix-then a b c x y first part))

-- the last call put the last of three
pub puts-three : {A E : Type 0} (a b c d : Option (List ℕ)) (x y z : List ℕ) (result : Result A E)
    → Grows a b x → Grows b c y → PutsAll c d result z → PutsAll a d result (x ++ y ++ z)
puts-three a b c d x y z result first second last =
    puts-then a c d (x ++ y) z result (grows-then a b c x y first second) last
