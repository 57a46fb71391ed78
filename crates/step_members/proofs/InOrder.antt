-- Pairs of places in order, one after another.
use Rattle.std.proofs.Common.{◌≡◌, ◌<◌, ◌+◌, ◌++◌, ◌⊎◌, ℕ, List, [], ◌∷◌, Option, Some, None, IfNone, IfSome, Contains, slice_get, length, arith, refl, sym, ◌∙◌, ap, subst, inl, inr}
use Rattle.std.proofs.lemmas.Bool.{cases_eq}
use Rattle.std.proofs.lemmas.Option.{slice_get_within}
use Rattle.program.proofs.Lists.{contains_at, contains_nil, place_of, pushed}
use Rattle.orders.proofs.Places.{fore, aft}
use Rattle.step_members.specs.declared.table.Member.{Member}
use Rattle.step_members.specs.Members.{AreInOrder, with_member}

-- a place of the step's execution is in one pair
abbrev pub IsOnce : (Member → Type 0) → Type 0
IsOnce P = (m o : Member) → P m → P o → m.own ≡ o.own → m ≡ o

pub no_members : (P : Member → Type 0) (ms : List Member) → ms ≡ [] → AreInOrder P 0 ms
no_members P ms none = subst (AreInOrder P 0) (sym none) (record {
  each = λ k m at. absurd (contains_nil m (contains_at [] k m at));
  before = λ k m at. absurd (contains_nil m (contains_at [] k m at));
  all = λ m is_m below. absurd (omega (arith, below));
  rising = λ k l m o order at_k at_l. absurd (contains_nil m (contains_at [] k m at_k));
})

one_more : (P : Member → Type 0) (n : ℕ) (ms : List Member) (x : Member) → IsOnce P → P x → x.own ≡ n → AreInOrder P n ms → AreInOrder P (n + 1) (ms ++ x ∷ [])
one_more P n ms x once is_x at_n earlier = record { each = each; before = before; all = all; rising = rising }
  where
    each : (k : ℕ) (m : Member) → slice_get (ms ++ x ∷ []) k ≡ Some m → P m
    each k m at = elim (pushed ms x m k at) [ inl old ↦ earlier.each k m old | inr (last, same) ↦ subst P same is_x ]

    before : (k : ℕ) (m : Member) → slice_get (ms ++ x ∷ []) k ≡ Some m → m.own < n + 1
    before k m at = elim (pushed ms x m k at) [
      | inl old ↦ (let below = earlier.before k m old in omega arith)
      | inr (last, same) ↦ (let own = ap (λ (y : Member). y.own) same in omega arith)
    ]

    all : (m : Member) → P m → m.own < n + 1 → Contains (ms ++ x ∷ []) m
    all m is_m below = elim (cases_eq m.own n) [
      | inl eq ↦ subst (Contains (ms ++ x ∷ [])) (once x m is_x is_m (at_n ∙ sym eq)) (contains_at (ms ++ x ∷ []) (length ms + 0) x (aft ms (x ∷ []) 0 x refl))
      | inr apart ↦ (let (q, at) = place_of ms m (earlier.all m is_m (omega arith)) in contains_at (ms ++ x ∷ []) q m (fore ms (x ∷ []) q m at))
    ]

    rising : (k l : ℕ) (m o : Member) → k < l → slice_get (ms ++ x ∷ []) k ≡ Some m → slice_get (ms ++ x ∷ []) l ≡ Some o → m.own < o.own
    rising k l m o order at_k at_l = go (pushed ms x m k at_k) (pushed ms x o l at_l)
      where
        go : (slice_get ms k ≡ Some m) ⊎ ((k ≡ length ms) × (x ≡ m)) → (slice_get ms l ≡ Some o) ⊎ ((l ≡ length ms) × (x ≡ o)) → m.own < o.own
        go (inl h) (inl g) = earlier.rising k l m o order h g
        go (inl h) (inr (last, same)) = let below = earlier.before k m h in let own = ap (λ (y : Member). y.own) same in omega arith
        go (inr (last, same)) (inl g) = let within = slice_get_within ms l o g in absurd (omega arith)
        go (inr (last, same)) (inr (last', same')) = absurd (omega arith)

none_more : (P : Member → Type 0) (n : ℕ) (ms : List Member) → ((m : Member) → P m → m.own ≡ n → ⊥) → AreInOrder P n ms → AreInOrder P (n + 1) ms
none_more P n ms none earlier = record {
  each = earlier.each;
  before = λ k m at. let below = earlier.before k m at in omega arith;
  all = λ m is_m below. elim (cases_eq m.own n) [ inl eq ↦ absurd (none m is_m eq) | inr apart ↦ earlier.all m is_m (omega arith) ];
  rising = earlier.rising;
}

pub with_one : (P : Member → Type 0) (n : ℕ) (ms new : List Member) (o : Option Member) → IsOnce P → IfSome o (λ m. P m × (m.own ≡ n)) → IfNone o ((m : Member) → P m → m.own ≡ n → ⊥) → new ≡ with_member ms o →
    AreInOrder P n ms → AreInOrder P (n + 1) new
with_one P n ms new None once found none is earlier = subst (AreInOrder P (n + 1)) (sym is) (none_more P n ms none earlier)
with_one P n ms new (Some m) once (is_m, at_n) none is earlier = subst (AreInOrder P (n + 1)) (sym is) (one_more P n ms m once is_m at_n earlier)
