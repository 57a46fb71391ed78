-- Identifiers and their places.
use Rattle.std.proofs.Common.{◌≡◌, ◌≢◌, ◌<◌, ◌+◌, ◌++◌, ℕ, Bool, false, List, [], ◌∷◌, Option, Some, None, IsSome, IfSome, slice_get, get_or, length, take, Contains, position, refl, sym, ◌∙◌, ap, nat_eq, eq-eqb, arith, inl, inr, if◌then◌else◌}
use Rattle.std.specs.List.{list_any, AllPairs}
use Rattle.std.specs.Option.{is_some}
use Rattle.std.proofs.lemmas.Bool.{cases_Bool, eqb-true}
use Rattle.std.proofs.lemmas.List.Quantifiers.{position-Some}
use Rattle.std.proofs.lemmas.List.{get_or-take, get_or_default, take_more}
use Rattle.std.proofs.Math.ListN.{length-take}
use Rattle.std.proofs.lemmas.Option.{slice_get-get_or, get_or_from_slice_get, slice_get_within}
use Rattle.indexmap.proofs.CallerLemmas.{Contains-list_any}
use Rattle.orders.proofs.Alike.{any_at}

position_id : (keys : List ℕ) (k n : ℕ) → position (nat_eq k) keys ≡ Some n → slice_get keys n ≡ Some k
position_id keys k n is = let found = position-Some (nat_eq k) keys n k is in slice_get-get_or keys n k found.0 ∙ ap Some (sym (eqb-true k _ found.1))

pub found_id : (keys : List ℕ) (k : ℕ) (o : Option ℕ) → o ≡ position (nat_eq k) keys → IfSome o (λ n. slice_get keys n ≡ Some k)
found_id keys k None e = tt
found_id keys k (Some n) e = position_id keys k n (sym e)

pub there_position : (keys : List ℕ) (k : ℕ) (o : Option ℕ) → o ≡ position (nat_eq k) keys → IsSome o → Contains keys k
there_position keys k None e some = cc
there_position keys k (Some n) e some = let is = position_id keys k n (sym e) in (n, slice_get_within keys n k is, get_or_from_slice_get keys n k k is)

pub position_there : (keys : List ℕ) (k : ℕ) (o : Option ℕ) → is_some o ≡ list_any (nat_eq k) keys → Contains keys k → IsSome o
position_there keys k o found (n, within, is) = found ∙ any_at (nat_eq k) keys n k (slice_get-get_or keys n k within ∙ ap Some is) (eq-eqb k k refl)

-- an identifier is new behind those before it
pub unseen : (ids : List ℕ) (i : ℕ) → AllPairs (λ m n. m ≢ n) ids → i < length ids → list_any (nat_eq (get_or ids i 0)) (take i ids) ≡ false
unseen ids i distinct within = elim (cases_Bool (list_any (nat_eq (get_or ids i 0)) (take i ids))) [
  | inr none ↦ none
  | inl found ↦ absurd (never (Contains-list_any nat_eq eqb-true (take i ids) (get_or ids i 0) found))
]
  where
    never : Contains (take i ids) (get_or ids i 0) → ⊥
    never (k, inside, is) =
        let below : k < i = omega (arith, length-take i ids) in
        distinct k i (get_or ids i 0) below within (sym (get_or-take i ids k (get_or ids i 0) below) ∙ is ∙ get_or_default ids i 0 (get_or ids i 0) within)

pub pushed_id : (ids keys new : List ℕ) (i x : ℕ) → AllPairs (λ m n. m ≢ n) ids → i < length ids → x ≡ get_or ids i 0 → keys ≡ take i ids → new ≡ (if list_any (nat_eq x) keys then keys else (keys ++ x ∷ [])) → new ≡ take (i + 1) ids
pushed_id ids keys new i x distinct within is keys_is new_is =
    let none : list_any (nat_eq x) keys ≡ false = rw (is, keys_is) (unseen ids i distinct within) in
    new_is ∙ ap (λ (b : Bool). if b then keys else (keys ++ x ∷ [])) none ∙ rw (is, keys_is) (sym (take_more ids i 0 within))
