-- What holds of items by their places in a list.
use Rattle.std.proofs.Common.{◌≡◌, ◌<◌, ℕ, List, Some, get_or, length, take, sym, subst, arith}
use Rattle.std.specs.Prelude.{All, AllPairs, slice_get}
use Rattle.std.proofs.lemmas.List.{get_or-take}
use Rattle.std.proofs.lemmas.Grind.{common_steps}
use Rattle.std.proofs.lemmas.Option.{slice_get_within, get_or_from_slice_get}

-- what holds of all items holds of the one at a place
pub all_at : {A : Type 0} (P : A → Type 0) (xs : List A) (k : ℕ) (x : A) → All P xs → slice_get xs k ≡ Some x → P x
all_at P xs k x all e = subst P (get_or_from_slice_get xs k x x e) (all k x (slice_get_within xs k x e))

length_taken : {A : Type 0} (xs : List A) (i k : ℕ) → i < length xs → k < length (take i xs) → k < i
length_taken xs i k lt h = grind (arith, common_steps)

-- where each two items in order are related, those before one are related to it
pub before_one : {A : Type 0} (R : A → A → Type 0) (xs : List A) (i : ℕ) (x : A) → AllPairs R xs → i < length xs → ((d : A) → get_or xs i d ≡ x) → All (λ y. R y x) (take i xs)
before_one {A} R xs i x pairs lt e = λ k d h.
    let inside = length_taken xs i k lt h in
    let Q : A → Type 0 = λ y. R y x in
    subst Q (sym (get_or-take i xs k d inside)) (subst (R (get_or xs k d)) (e d) (pairs k i d inside lt))
