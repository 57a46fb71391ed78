-- The lists of writes, place by place.
use Rattle.std.proofs.Common.{◌≡◌, ◌<◌, ◌+◌, ◌-◌, ◌++◌, ◌⊎◌, ℕ, List, [], ◌∷◌, Option, Some, None, IfNone, IfSome, All, Contains, slice_index_or, length, arith, refl, sym, ◌∙◌, ap, subst, inl, inr}
use Rattle.std.specs.List.Sorted.{IsNonDecreasingBy}
use Rattle.std.proofs.lemmas.Bool.{cases_eq}
use Rattle.std.proofs.lemmas.List.{length-set, get_or-set_same, get_or-set_other}
use Rattle.std.proofs.lemmas.List.Sorted.{IsNonDecreasingBy-push, IsNonDecreasingBy-short}
use Rattle.std.proofs.lemmas.Option.{slice_get_within}
use Rattle.program.proofs.Lists.{all_from, all_of, contains_at, place_of, pushed}
use Rattle.action_orders.specs.Actions.{Of, Var, IsWrite}
use Rattle.orders.specs.declared.answers.Orders.{Orders}
use Rattle.orders.specs.Made.{IsMade}
use Rattle.orders.specs.Symbols.{OfVariable, symbols}
use Rattle.orders.specs.Tables.{action_of}
use Rattle.orders.proofs.Places.{fore, aft}
use Rattle.happens_before_reads.specs.Accesses.{IsNumberOf, IsNumberWritten, WritesNone}
use Rattle.happens_before_reads.specs.Writes.{AreWrites, AreAllWrites, with_place}
use Rattle.happens_before_reads.proofs.Naming.{one_written, one_numbered, one_number}

-- ---- One more place

pushed_cases : (xs : List ℕ) (n k : ℕ) → Contains (xs ++ n ∷ []) k → Contains xs k ⊎ (k ≡ n)
pushed_cases xs n k there =
    let (q, at) = place_of (xs ++ n ∷ []) k there in
    elim (pushed xs n k q at) [
      | inl old ↦ inl (contains_at xs q k old)
      | inr (last, same) ↦ inr (sym same)
    ]

pushed_old : (xs : List ℕ) (n k : ℕ) → Contains xs k → Contains (xs ++ n ∷ []) k
pushed_old xs n k there = let (q, at) = place_of xs k there in contains_at (xs ++ n ∷ []) q k (fore xs (n ∷ []) q k at)

pushed_new : (xs : List ℕ) (n : ℕ) → Contains (xs ++ n ∷ []) n
pushed_new xs n = contains_at (xs ++ n ∷ []) (length xs + 0) n (aft xs (n ∷ []) 0 n refl)

pushed_rising : (xs : List ℕ) (n : ℕ) → IsNonDecreasingBy (λ k. k) xs → All (λ k. k < n) xs → IsNonDecreasingBy (λ k. k) (xs ++ n ∷ [])
pushed_rising xs n rising below = IsNonDecreasingBy-push (λ k. k) xs n rising (λ d some. let h = below (length xs - 1) d (omega arith) in omega arith)

below_next : (xs : List ℕ) (n : ℕ) → All (λ k. k < n) xs → All (λ k. k < n + 1) (xs ++ n ∷ [])
below_next xs n below = all_from (λ k. k < n + 1) (xs ++ n ∷ []) (λ k there. at k (pushed_cases xs n k there))
  where
    at : (k : ℕ) → Contains xs k ⊎ (k ≡ n) → k < n + 1
    at k (inl old) = let h = all_of (λ m. m < n) xs k below old in omega arith
    at k (inr same) = omega arith

-- ---- One variable

empty : (o : Orders) (v : Var) → AreWrites o v 0 []
empty o v = record {
  rising = IsNonDecreasingBy-short (λ k. k) [] (omega arith);
  below = λ i d within. absurd (omega (arith, within));
  exactly = λ k within. absurd (omega (arith, within));
}

written : (o : Orders) (v : Var) (n : ℕ) (places : List ℕ) → IsWrite v (Of (action_of o.flat n)) → AreWrites o v n places → AreWrites o v (n + 1) (places ++ n ∷ [])
written o v n places write before = record {
  rising = pushed_rising places n before.rising before.below;
  below = below_next places n before.below;
  exactly = λ k within. elim (cases_eq k n) [
    | inl eq ↦ (λ there. subst (λ (m : ℕ). IsWrite v (Of (action_of o.flat m))) (sym eq) write, λ is. subst (Contains (places ++ n ∷ [])) (sym eq) (pushed_new places n))
    | inr apart ↦ (
      λ there. elim (pushed_cases places n k there) [ inl old ↦ (before.exactly k (omega arith)).0 old | inr same ↦ absurd (apart same) ],
      λ is. pushed_old places n k ((before.exactly k (omega arith)).1 is),
    )
  ];
}

kept : (o : Orders) (v : Var) (n : ℕ) (places : List ℕ) → (IsWrite v (Of (action_of o.flat n)) → ⊥) → AreWrites o v n places → AreWrites o v (n + 1) places
kept o v n places other before = record {
  rising = before.rising;
  below = λ i d within. let h = before.below i d within in omega arith;
  exactly = λ k within. elim (cases_eq k n) [
    | inl eq ↦ (
      λ there. (let h = all_of (λ m. m < n) places k before.below there in let never : ⊥ = omega arith in absurd never),
      λ is. absurd (other (subst (λ (m : ℕ). IsWrite v (Of (action_of o.flat m))) eq is)),
    )
    | inr apart ↦ before.exactly k (omega arith)
  ];
}

-- ---- All variables

pub none_written : (o : Orders) (lists : List (List ℕ)) → length lists ≡ length (symbols o.variables) → ((c : ℕ) (d : List ℕ) → c < length lists → slice_index_or lists c d ≡ []) → AreAllWrites o 0 lists
none_written o lists size none = record {
  size = size;
  each = λ c v d named. subst (AreWrites o v 0) (sym (none c d (let h = slice_get_within (symbols o.variables) c (OfVariable v.class v.name) named in omega arith))) (empty o v);
}

-- where the action writes to a variable
pub one_place : (o : Orders) (n k : ℕ) (u : Var) (lists : List (List ℕ)) → IsMade o → IsNumberOf o u k → IsWrite u (Of (action_of o.flat n)) → AreAllWrites o n lists → AreAllWrites o (n + 1) (with_place lists (Some k) n)
one_place o n k u lists made is_k write before = record {
  size = length-set lists k (slice_index_or lists k [] ++ n ∷ []) ∙ before.size;
  each = λ c v d named. elim (cases_eq c k) [
    | inl eq ↦ subst (AreWrites o v (n + 1)) (sym (at_own c d eq)) (own v (subst (IsNumberOf o v) eq named))
    | inr apart ↦ subst (AreWrites o v (n + 1)) (sym (get_or-set_other lists k c (slice_index_or lists k [] ++ n ∷ []) d apart))
        (kept o v n (slice_index_or lists c d) (λ write'. apart (one_number o v c k made named (subst (λ (x : Var). IsNumberOf o x k) (one_written u v (action_of o.flat n) write write') is_k))) (before.each c v d named))
  ];
}
  where
    at_own : (c : ℕ) (d : List ℕ) → c ≡ k → slice_index_or (with_place lists (Some k) n) c d ≡ slice_index_or lists k [] ++ n ∷ []
    at_own c d eq =
        ap (λ (m : ℕ). slice_index_or (with_place lists (Some k) n) m d) eq
        ∙ get_or-set_same lists k (slice_index_or lists k [] ++ n ∷ []) d (let h = slice_get_within (symbols o.variables) k (OfVariable u.class u.name) is_k in let size = before.size in omega arith)

    own : (v : Var) → IsNumberOf o v k → AreWrites o v (n + 1) (slice_index_or lists k [] ++ n ∷ [])
    own v named =
        written o v n (slice_index_or lists k []) (subst (λ (x : Var). IsWrite x (Of (action_of o.flat n))) (one_numbered o u v k is_k named) write) (before.each k v [] named)

pub one_more : (o : Orders) (n : ℕ) (lists new : List (List ℕ)) (number : Option ℕ) → IsMade o → IfSome number (IsNumberWritten o (action_of o.flat n)) → IfNone number (WritesNone o (action_of o.flat n)) →
    new ≡ with_place lists number n → AreAllWrites o n lists → AreAllWrites o (n + 1) new
one_more o n lists new None made found none is before =
    subst (AreAllWrites o (n + 1)) (sym is) (record { size = before.size; each = λ c v d named. kept o v n (slice_index_or lists c d) (λ write. none v c named write) (before.each c v d named) })
one_more o n lists new (Some k) made (u, is_k, write) none is before = subst (AreAllWrites o (n + 1)) (sym is) (one_place o n k u lists made is_k write before)

-- the number of a written variable is below the number of lists
pub written_within : (o : Orders) (n m : ℕ) (lists : List (List ℕ)) (number : Option ℕ) → IfSome number (IsNumberWritten o (action_of o.flat m)) → AreAllWrites o n lists → IfSome number (λ c. c < length lists)
written_within o n m lists None found before = tt
written_within o n m lists (Some k) (u, is_k, write) before = let h = slice_get_within (symbols o.variables) k (OfVariable u.class u.name) is_k in let size = before.size in omega arith
