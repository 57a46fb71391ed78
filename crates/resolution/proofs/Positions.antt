-- The first place in a list that is one longer.
use Rattle.std.proofs.Common.{◌≡◌, ◌≤◌, ◌+◌, ◌<◌, ◌++◌, ℕ, Bool, true, false, suc, cond, eqb, min, not, nat_lt, List, [], ◌∷◌, Option, Some, None, length, position, take, get_or, sym, ◌∙◌, ap, ap₂, if◌then◌else◌, arith, rules, tests}
use Rattle.std.specs.List.{position_or_len}
use Rattle.std.specs.Option.{option_or}
use Rattle.std.proofs.lemmas.List.{length-append, length-take, take_more}
use Rattle.std.proofs.lemmas.List.Folds.{position_or_len_push}

-- a place that counts where it is within the list
abbrev placed : ℕ → ℕ → Option ℕ
placed place size = cond (nat_lt place size) (Some place) None

push_true : (n size : ℕ) → n ≤ size → placed (cond (eqb n size) (size + 0) n) (size + 1) ≡ option_or (placed n size) (Some size)
push_true n size within = search (tests, rules, arith)

push_false : (n size : ℕ) → n ≤ size → placed (cond (eqb n size) (size + 1) n) (size + 1) ≡ option_or (placed n size) None
push_false n size within = search (tests, rules, arith)

by_length : (n size : ℕ) (b : Bool) → n ≤ size → placed (cond (eqb n size) (size + cond b 0 1) n) (size + 1) ≡ option_or (placed n size) (if b then Some size else None)
by_length n size true within = push_true n size within
by_length n size false within = push_false n size within

step_within : (b : Bool) (n size : ℕ) → n ≤ size → cond (not b) (1 + n) 0 ≤ suc size
step_within true n size h = omega arith
step_within false n size h = omega (arith, h)

first_within : {X : Type 0} (p : X → Bool) (xs : List X) → position_or_len p xs ≤ length xs
first_within p [] = omega arith
first_within p (x ∷ xs) = step_within (p x) (position_or_len p xs) (length xs) (first_within p xs)

pub position_push : {X : Type 0} (p : X → Bool) (xs : List X) (y : X) → position p (xs ++ y ∷ []) ≡ option_or (position p xs) (if p y then Some (length xs) else None)
position_push p xs y =
    ap₂ placed (position_or_len_push p xs y) (length-append xs (y ∷ [])) ∙ by_length (position_or_len p xs) (length xs) (p y) (first_within p xs)

min_left : (n m : ℕ) → n < m → min n m ≡ n
min_left n m h = search (tests, rules, arith)

pub position_take : {X : Type 0} (p : X → Bool) (xs : List X) (i : ℕ) (x : X) → i < length xs → x ≡ get_or xs i x →
    position p (take (i + 1) xs) ≡ option_or (position p (take i xs)) (if p x then Some i else None)
position_take p xs i x within is =
    ap (position p) (take_more xs i x within ∙ ap (λ y. take i xs ++ y ∷ []) (sym is)) ∙ position_push p (take i xs) x
    ∙ ap (λ n. option_or (position p (take i xs)) (if p x then Some n else None)) (length_of_take xs i within)
  where
    length_of_take : {X : Type 0} (xs : List X) (i : ℕ) → i < length xs → length (take i xs) ≡ i
    length_of_take xs i within = length-take i xs ∙ min_left i (length xs) within
