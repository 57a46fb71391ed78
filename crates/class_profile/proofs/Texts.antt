-- Texts in the order in which they came, and their numbers.
use Rattle.std.proofs.Common.{◌≡◌, ◌+◌, ℕ, Bool, true, false, cond, not, ◌||◌, List, [], ◌∷◌, ◌++◌, map, refl, sym, ap, if◌then◌else◌}
use Rattle.std.specs.List.{position_or_len, list_any}
use Rattle.std.proofs.lemmas.List.{map-append}
use Rattle.class_names.specs.Names.{same_text}
use Rattle.class_profile.specs.Texts.{with_text}

pub any_map : {X Y : Type 0} (p : Y → Bool) (f : X → Y) (xs : List X) → list_any p (map f xs) ≡ list_any (λ x. p (f x)) xs
any_map p f [] = refl
any_map p f (x ∷ xs) = ap (λ b. p (f x) || b) (any_map p f xs)

pub first_map : {X Y : Type 0} (p : Y → Bool) (f : X → Y) (xs : List X) → position_or_len p (map f xs) ≡ position_or_len (λ x. p (f x)) xs
first_map p f [] = refl
first_map p f (x ∷ xs) = ap (λ n. cond (not (p (f x))) (1 + n) 0) (first_map p f xs)

pub added_map : {X : Type 0} (f : X → List ℕ) (x : X) (xs : List X) →
    map f (if list_any (λ y. same_text (f x) (f y)) xs then xs else xs ++ x ∷ []) ≡ with_text (map f xs) (f x)
added_map {X} f x xs = go (list_any (λ y. same_text (f x) (f y)) xs) (list_any (same_text (f x)) (map f xs)) (sym (any_map (same_text (f x)) f xs))
  where
    go : (a b : Bool) → a ≡ b → map f (if a then xs else xs ++ x ∷ []) ≡ (if b then map f xs else map f xs ++ f x ∷ [])
    go true true e = refl
    go false false e = map-append f xs (x ∷ [])
    go true false e = cc
    go false true e = cc
