-- Where the first element of a list stands that passes a test.
use Rattle.std.proofs.Common.{◌≡◌, ℕ, Bool, cond, not, nat_lt, Option, Some, None, List, [], ◌∷◌, ◌+◌, length, map, position, refl, ap, ◌∙◌}
use Rattle.std.specs.List.{position_or_len}
use Rattle.std.proofs.lemmas.List.{length-map}

first-map : {X Y : Type 0} (p : Y → Bool) (f : X → Y) (xs : List X) → position_or_len p (map f xs) ≡ position_or_len (λ x. p (f x)) xs
first-map p f [] = refl
first-map p f (x ∷ xs) = ap (λ n. cond (not (p (f x))) (1 + n) 0) (first-map p f xs)

-- a place that counts where it is within the list
abbrev placed : ℕ → ℕ → Option ℕ
placed place size = cond (nat_lt place size) (Some place) None

pub position-map : {X Y : Type 0} (p : Y → Bool) (f : X → Y) (xs : List X) → position p (map f xs) ≡ position (λ x. p (f x)) xs
position-map p f xs =
    ap (λ n. placed n (length (map f xs))) (first-map p f xs) ∙ ap (λ n. placed (position_or_len (λ x. p (f x)) xs) n) (length-map xs f)
