-- Lists that are read from both ends.
use Rattle.std.proofs.Common.{◌≡◌, ℕ, zero, suc, ◌<◌, List, [], ◌∷◌, ◌++◌, length, get_or, reverse, refl, sym, ◌∙◌, ap, arith}
use Rattle.std.proofs.lemmas.List.{reverse-append, reverse-reverse, length-reverse, append_assoc}

pub record IsSplitAt {A : Type 0} (xs : List A) (place : ℕ) (x : A) : Type 0 where
  pub front : List A
  pub back : List A
  pub splits : xs ≡ front ++ x ∷ back
  pub count : length front ≡ place

pub split_at : {A : Type 0} (xs : List A) (place : ℕ) (d : A) → place < length xs → IsSplitAt xs place (get_or xs place d)
split_at [] place d lt = absurd (omega arith)
split_at (x ∷ xs) zero d lt = record { front = []; back = xs; splits = refl; count = refl }
split_at {A} (x ∷ xs) (suc place) d lt =
    let s = split_at {A = A} xs place d (omega arith) in
    record { front = x ∷ s.front; back = s.back; splits = ap (λ ys. x ∷ ys) s.splits; count = omega (arith, s.count) }

pub reverse-split : {A : Type 0} (front back : List A) (x : A) → reverse (front ++ x ∷ back) ≡ reverse back ++ x ∷ reverse front
reverse-split front back x =
    reverse-append front (x ∷ back) ∙ ap (λ ys. ys ++ reverse front) (reverse-append (x ∷ []) back) ∙ append_assoc (reverse back) (x ∷ []) (reverse front)

pub get_or-middle : {A : Type 0} (front back : List A) (x d : A) → get_or (front ++ x ∷ back) (length front) d ≡ x
get_or-middle [] back x d = refl
get_or-middle {A} (y ∷ front) back x d = get_or-middle {A = A} front back x d

-- a place in the reversed list, counted from its end
pub place_in_reverse : {A : Type 0} (items newer older : List A) (x d : A) → reverse items ≡ newer ++ x ∷ older → get_or items (length older) d ≡ x
place_in_reverse items newer older x d e =
    let items_are = sym (reverse-reverse items) ∙ ap reverse e ∙ reverse-split newer older x in
    ap (λ ys. get_or ys (length older) d) items_are ∙ ap (λ k. get_or (reverse older ++ x ∷ reverse newer) k d) (sym (length-reverse older)) ∙ get_or-middle (reverse older) (reverse newer) x d

pub reverse-push : {A : Type 0} (items : List A) (x : A) → reverse (items ++ x ∷ []) ≡ x ∷ reverse items
reverse-push items x = reverse-append items (x ∷ [])
