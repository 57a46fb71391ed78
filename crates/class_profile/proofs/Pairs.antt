-- Lists without two alike.
use Rattle.std.proofs.Common.{◌≡◌, ◌<◌, ◌↔◌, ℕ, Bool, true, false, List, [], ◌∷◌, ◌++◌, length, map, get_or, take, AllPairs, Any, arith, sym, ◌∙◌, subst}
use Rattle.std.specs.List.{list_any}
use Rattle.std.proofs.lemmas.List.{get_or-take, length-take, get_or_default, get_or-map, length-map}
use Rattle.std.proofs.lemmas.List.Folds.{list_any_at, Any-from_list_any}
use Rattle.std.proofs.lemmas.List.Quantifiers.{all_pairs_push}
use Rattle.class_profile.proofs.SameTexts.{not_true, not_both}

module _ {K : Type 0} (eq : K → K → Bool) where
  -- no two of the keys are equal
  abbrev pub Apart : List K → Type 0
  Apart ks = AllPairs (λ a b. eq b a ≡ false) ks

  -- a key that equals none of the list
  pub apart_with : (y : K) (ks : List K) → list_any (eq y) ks ≡ false → Apart ks → Apart (ks ++ y ∷ [])
  apart_with y ks none apart = all_pairs_push (λ a b. eq b a ≡ false) ks y apart
      (λ k d within. not_true (eq y (get_or ks k d)) (λ passes. not_both (list_any (eq y) ks) none (list_any_at (eq y) ks k d within passes)))

  -- a key that equals an earlier one
  pub not_apart : (ks : List K) (i : ℕ) (y : K) → i < length ks → y ≡ get_or ks i y → list_any (eq y) (take i ks) ≡ true → Apart ks → ⊥
  not_apart ks i y within is known apart = go (Any-from_list_any (eq y) (take i ks) known)
    where
      go : Any (λ x. eq y x ≡ true) (take i ks) → ⊥
      go (k, x, inside, is_x, passes) =
          let early : k < i = omega (arith, length-take i ks) in
          let x_is : get_or ks k y ≡ x = get_or_default ks k y x (omega arith) ∙ sym (get_or-take i ks k x early) ∙ is_x in
          let fails : eq (get_or ks i y) (get_or ks k y) ≡ false = apart k i y early within in
          not_both (eq y x) (subst (λ (z : K). eq y z ≡ false) x_is (subst (λ (z : K). eq z (get_or ks k y) ≡ false) (sym is) fails)) passes

-- pairs of images
module _ {X Y : Type 0} (f : X → Y) (R : X → X → Type 0) (S : Y → Y → Type 0) (same : (a b : X) → S (f a) (f b) ↔ R a b) where
  of_images : (xs : List X) → AllPairs S (map f xs) → AllPairs R xs
  of_images xs h i j d less within =
      (same (get_or xs i d) (get_or xs j d)).0
      (subst (λ (y : Y). S y (f (get_or xs j d))) (get_or-map f xs i d (f d) (omega arith))
      (subst (λ (y : Y). S (get_or (map f xs) i (f d)) y) (get_or-map f xs j d (f d) within)
      (h i j (f d) less (omega (arith, length-map xs f)))))

  images : (xs : List X) → AllPairs R xs → AllPairs S (map f xs)
  images [] h i j d less within = absurd (omega arith)
  images (x ∷ xs) h i j d less within =
      let within' : j < length (x ∷ xs) = omega (arith, length-map (x ∷ xs) f) in
      subst (λ (y : Y). S y (get_or (map f (x ∷ xs)) j d)) (sym (get_or-map f (x ∷ xs) i x d (omega arith)))
      (subst (λ (y : Y). S (f (get_or (x ∷ xs) i x)) y) (sym (get_or-map f (x ∷ xs) j x d within'))
      ((same (get_or (x ∷ xs) i x) (get_or (x ∷ xs) j x)).1 (h i j x less within')))

  pub pairs_of_images : (xs : List X) → AllPairs S (map f xs) ↔ AllPairs R xs
  pairs_of_images xs = (of_images xs, images xs)
