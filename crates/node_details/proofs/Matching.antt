-- Two lists that grow, item by item.
use Rattle.std.proofs.Common.{◌≡◌, ◌<◌, ◌+◌, ℕ, List, [], ◌∷◌, ◌++◌, get_or, suc, take, length, sym, subst, ap, refl}
use Rattle.std.proofs.lemmas.List.{take_more}
use Rattle.node_details.specs.Matched.{AreMatched}

-- there are as many on both sides
pub same_length : {A B : Type 0} (R : A → B → Type 0) (xs : List A) (ys : List B) → AreMatched R xs ys → length xs ≡ length ys
same_length R [] [] matched = refl
same_length R (x ∷ xs) (y ∷ ys) matched = ap suc (same_length R xs ys matched.1)
same_length R [] (y ∷ ys) matched = absurd matched
same_length R (x ∷ xs) [] matched = absurd matched

-- one more on both sides
pub one_more : {A B : Type 0} (R : A → B → Type 0) (xs : List A) (ys : List B) (x : A) (y : B) → AreMatched R xs ys → R x y → AreMatched R (xs ++ x ∷ []) (ys ++ y ∷ [])
one_more R [] [] x y matched is = (is, _)
one_more R (u ∷ xs) (v ∷ ys) x y matched is = (matched.0, one_more R xs ys x y matched.1 is)
one_more R [] (v ∷ ys) x y matched is = absurd matched
one_more R (u ∷ xs) [] x y matched is = absurd matched

-- one more of the first items of a list
pub next_matched : {A B : Type 0} (R : A → B → Type 0) (xs : List A) (old new : List B) (i : ℕ) (d : A) (y : B) → i < length xs → new ≡ old ++ y ∷ [] →
    AreMatched R (take i xs) old → R (get_or xs i d) y → AreMatched R (take (i + 1) xs) new
next_matched R xs old new i d y within added matched is =
    subst (λ (firsts : List _). AreMatched R firsts new) (sym (take_more xs i d within))
    (subst (λ (ys : List _). AreMatched R (take i xs ++ get_or xs i d ∷ []) ys) (sym added) (one_more R (take i xs) old (get_or xs i d) y matched is))
