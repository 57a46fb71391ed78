-- The first items of a list, one more at a time.
use Rattle.std.proofs.Common.{suc, take, get_or, ◌≡◌, ◌↔◌, ◌⊎◌, ◌+◌, ◌<◌, inl, inr, ℕ, List, [], ◌∷◌, ◌++◌, Contains, length, sym, ap, subst, ◌∙◌}
use native.Mathlib.Omega.{arith}
use Rattle.std.proofs.Math.Seq.{take-suc}
use Rattle.std.proofs.lemmas.List.Elements.{Contains-append_left, Contains-append_right, Contains-append_cases}
use Rattle.program.proofs.Lists.{contains_here, contains_one}

-- among the first of one more stand the first, and the next
pub among_first : {X : Type 0} (xs : List X) (k : ℕ) (x y : X) → k < length xs → x ≡ get_or xs k x → Contains (take (k + 1) xs) y ↔ (Contains (take k xs) y ⊎ (y ≡ x))
among_first {X} xs k x y within is =
    let next : k + 1 ≡ suc k = omega arith in
    let longer : take (k + 1) xs ≡ take k xs ++ x ∷ [] = ap (λ n. take n xs) next ∙ take-suc xs k x within ∙ ap (λ z. take k xs ++ z ∷ []) (sym is) in
    ((λ there. by (Contains-append_cases (take k xs) (x ∷ []) y (subst (λ ys. Contains ys y) longer there))), (λ there. subst (λ ys. Contains ys y) (sym longer) (back there)))
  where
    by : Contains (take k xs) y ⊎ Contains (x ∷ []) y → Contains (take k xs) y ⊎ (y ≡ x)
    by (inl before) = inl before
    by (inr one) = inr (sym (contains_one x y one))

    back : Contains (take k xs) y ⊎ (y ≡ x) → Contains (take k xs ++ x ∷ []) y
    back (inl before) = Contains-append_left (take k xs) (x ∷ []) y before
    back (inr e) = Contains-append_right (take k xs) (x ∷ []) y (subst (Contains (x ∷ [])) (sym e) (contains_here x []))
