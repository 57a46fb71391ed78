-- The first element that passes a test.
use Rattle.std.proofs.Common.{◌≡◌, ◌<◌, ◌+◌, ℕ, zero, suc, Bool, true, false, cond, List, [], ◌∷◌, Option, Some, None, find, length, get_or, take, refl, sym, ap, ◌∙◌, arith}
use Rattle.std.specs.Option.{option_or}
use Rattle.std.proofs.lemmas.List.{take_more}
use Rattle.std.proofs.lemmas.List.Folds.{find-append}

pub find_here : {X : Type 0} (p : X → Bool) (xs : List X) (i : ℕ) (d : X) → i < length xs → find p (take i xs) ≡ None → p (get_or xs i d) ≡ true → find p xs ≡ Some (get_or xs i d)
find_here p [] i d within none is = absurd (omega arith)
find_here p (x ∷ xs) zero d within none is = ap (λ (b : Bool). cond b (Some x) (find p xs)) is
find_here {X} p (x ∷ xs) (suc i) d within none is = go (p x) refl (λ later. find_here p xs i d (omega arith) later is)
  where
    go : (b : Bool) → p x ≡ b → (find p (take i xs) ≡ None → find p xs ≡ Some (get_or xs i d)) → cond (p x) (Some x) (find p xs) ≡ Some (get_or xs i d)
    go true passes later = let e : Some x ≡ None = sym (ap (λ (b : Bool). cond b (Some x) (find p (take i xs))) passes) ∙ none in cc
    go false fails later =
        ap (λ (b : Bool). cond b (Some x) (find p xs)) fails ∙ later (sym (ap (λ (b : Bool). cond b (Some x) (find p (take i xs))) fails) ∙ none)

pub find_later : {X : Type 0} (p : X → Bool) (xs : List X) (i : ℕ) (d : X) → i < length xs → find p (take i xs) ≡ None → p (get_or xs i d) ≡ false → find p (take (i + 1) xs) ≡ None
find_later p xs i d within none fails =
    ap (find p) (take_more xs i d within) ∙ find-append p (take i xs) (get_or xs i d ∷ [])
    ∙ ap (λ (o : Option _). option_or o (find p (get_or xs i d ∷ []))) none ∙ ap (λ (b : Bool). cond b (Some (get_or xs i d)) None) fails
