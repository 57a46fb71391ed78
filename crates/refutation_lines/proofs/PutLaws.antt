-- Lines whose parts are put one after another.
use Rattle.std.proofs.Common.{◌≡◌, ◌++◌, ap, subst, ℕ, List, [], ◌∷◌, map, Option, Result, refl}
use Rattle.std.specs.List.{flat_map}
use Rattle.std.specs.Result.{IsErr}
use Rattle.std.proofs.lemmas.List.{length-map}
use Rattle.ports.specs.Growth.{Grows, GrowsByPrefix, PutsAll}
use Rattle.ports.proofs.GrowthLaws.{grows-then, prefix-of_more, prefix-then}
use Rattle.texts.specs.SevenBits.{seven_bits}
use Rattle.texts.proofs.TextLaws.{puts-failed, puts-then}
use Rattle.refutation_lines.specs.LineText.{clause_bytes, counted}

-- the first of two parts was put in part
pub begun : {A E : Type 0} (a b : Option (List ℕ)) (x y : List ℕ) (result : Result A E) → IsErr result
    → GrowsByPrefix a b x → PutsAll a b result (x ++ y)
begun a b x y result failed part = puts-failed a b (x ++ y) result failed (prefix-of_more a b x y part)

-- the second of three
pub middle : {A E : Type 0} (a b c : Option (List ℕ)) (x y z : List ℕ) (result : Result A E) → IsErr result
    → Grows a b x → GrowsByPrefix b c y → PutsAll a c result (x ++ y ++ z)
middle a b c x y z result failed first part = begun a c (x ++ y) z result failed (prefix-then a b c x y first part)

-- the third of three is the last
pub three : {A E : Type 0} (a b c d : Option (List ℕ)) (x y z : List ℕ) (result : Result A E)
    → Grows a b x → Grows b c y → PutsAll c d result z → PutsAll a d result (x ++ y ++ z)
three a b c d x y z result first second last = puts-then a c d (x ++ y) z result (grows-then a b c x y first second) last

flat_map-map : {A B : Type 0} (f : B → List ℕ) (g : A → B) (xs : List A) → flat_map f (map g xs) ≡ flat_map (λ x. f (g x)) xs
flat_map-map f g [] = refl
flat_map-map f g (x ∷ xs) = ap (λ (rest : List ℕ). f (g x) ++ rest) (flat_map-map f g xs)

-- items and what stands for them
counted-map : {A B : Type 0} (f : B → List ℕ) (g : A → B) (xs : List A) → counted (λ x. f (g x)) xs ≡ counted f (map g xs)
counted-map f g xs = rw (length-map, flat_map-map f g xs) refl

pub clause-map : {A B E R : Type 0} (f : B → List ℕ) (g : A → B) (xs : List A) (hints : List ℕ) (a b : Option (List ℕ)) (result : Result R E)
    → PutsAll a b result (clause_bytes (λ x. f (g x)) xs hints) → PutsAll a b result (clause_bytes f (map g xs) hints)
clause-map f g xs hints a b result puts =
    subst (λ (literals : List ℕ). PutsAll a b result ((2 ∷ []) ++ literals ++ counted seven_bits hints)) (counted-map f g xs) puts
