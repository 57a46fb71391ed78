-- Lines whose parts are put one after another.
use Rattle.std.proofs.Common.{◌≡◌, ◌++◌, ◌∙◌, ap, sym, subst, ℕ, List, [], ◌∷◌, map, Option, Some, Result, Ok, Err, refl, slice_get}
use Rattle.std.specs.Prelude.{MatchResult}
use Rattle.std.specs.Option.{option_map}
use Rattle.std.specs.List.{flat_map}
use Rattle.std.specs.Result.{IsErr}
use Rattle.std.proofs.lemmas.List.{length-map}
use Rattle.ports.specs.Growth.{Grows, GrowsByPrefix, PutsAll}
use Rattle.ports.proofs.GrowthLaws.{grows-then, prefix-of_more, prefix-then}
use Rattle.texts.proofs.TextLaws.{puts-failed, puts-then}
use Rattle.var_names.specs.declared.rule.Rule.{Rule}
use Rattle.var_names.specs.Formulas.{RuledClause}
use Rattle.refutation_lines.specs.LineText.{counted}

-- the first of two parts was put in part
pub begun : {A E : Type 0} (a b : Option (List ℕ)) (x y : List ℕ) (result : Result A E) → IsErr result
    → GrowsByPrefix a b x → PutsAll a b result (x ++ y)
begun a b x y result failed part = puts-failed a b (x ++ y) result failed (prefix-of_more a b x y part)

-- the second of three
pub middle : {A E : Type 0} (a b c : Option (List ℕ)) (x y z : List ℕ) (result : Result A E) → IsErr result
    → Grows a b x → GrowsByPrefix b c y → PutsAll a c result (x ++ y ++ z)
middle a b c x y z result failed first part = begun a c (x ++ y) z result failed (prefix-then a b c x y first part)

-- the third of three is the last
pub three : {A E : Type 0} (a b c d : Option (List ℕ)) (x y z : List ℕ) (result : Result A E)
    → Grows a b x → Grows b c y → PutsAll c d result z → PutsAll a d result (x ++ y ++ z)
three a b c d x y z result first second last = puts-then a c d (x ++ y) z result (grows-then a b c x y first second) last

flat_map-map : {A B : Type 0} (f : B → List ℕ) (g : A → B) (xs : List A) → flat_map f (map g xs) ≡ flat_map (λ x. f (g x)) xs
flat_map-map f g [] = refl
flat_map-map f g (x ∷ xs) = ap (λ (rest : List ℕ). f (g x) ++ rest) (flat_map-map f g xs)

-- items and what stands for them
pub counted-map : {A B : Type 0} (f : B → List ℕ) (g : A → B) (xs : List A) → counted (λ x. f (g x)) xs ≡ counted f (map g xs)
counted-map f g xs = rw (length-map, flat_map-map f g xs) refl

-- the same text
pub puts-same : {A E : Type 0} (a b : Option (List ℕ)) (x y : List ℕ) (result : Result A E) → x ≡ y → PutsAll a b result x → PutsAll a b result y
puts-same a b x y result same puts = subst (λ (text : List ℕ). PutsAll a b result text) same puts

-- a call that failed
pub failed : {A E : Type 0} (result : Result A E) (P : A → Type 0) (Q : E → Type 0) → IsErr result → ((e : E) → Q e) → MatchResult result P Q
failed (Ok x) P Q is q = absurd (cc)
failed (Err e) P Q is q = q e

-- the rule of a clause of a formula
pub rule-of : (clauses : List RuledClause) (place : ℕ) (clause : RuledClause) (rule : Rule) → slice_get clauses place ≡ Some clause → Some rule ≡ option_map (λ (c : RuledClause). c.rule) (slice_get clauses place) → clause.rule ≡ rule
rule-of clauses place clause rule found value =
    let same : Some rule ≡ Some clause.rule = value ∙ ap (option_map (λ (c : RuledClause). c.rule)) found in
    let rules : rule ≡ clause.rule = cc in sym rules
