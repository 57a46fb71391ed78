-- The committed actions of a thread, one after another.
use Rattle.std.proofs.Common.{◌≡◌, ◌<◌, ◌≤◌, ◌+◌, ◌++◌, ◌⊎◌, ℕ, List, [], ◌∷◌, Some, Contains, slice_get, length, arith, refl, sym, ◌∙◌, ap, subst, inl, inr}
use Rattle.std.proofs.lemmas.Bool.{cases_eq}
use Rattle.std.proofs.lemmas.Option.{slice_get_within}
use Rattle.program.proofs.Lists.{contains_at, contains_nil, place_of, pushed}
use Rattle.orders.proofs.Places.{one, fore, aft}
use Rattle.step_members.specs.declared.stage.Stage.{Stage}
use Rattle.step_members.specs.declared.table.Member.{Member}
use Rattle.step_members.specs.Members.{AreMembers, IsMember}
use Rattle.same_orders.specs.Happening.{AreOfThread, thread_at}

-- the members of the thread among the first i
pub record AreKept (s : Stage) (t : ℕ) (members : List Member) (i : ℕ) (ms : List Member) : Type 0 where
  pub each : (k : ℕ) (m : Member) → slice_get ms k ≡ Some m → (j : ℕ) × (j < i) × (slice_get members j ≡ Some m)
  pub own : (k : ℕ) (m : Member) → slice_get ms k ≡ Some m → thread_at s.own.now m.own ≡ t
  pub all : (j : ℕ) (m : Member) → j < i → slice_get members j ≡ Some m → thread_at s.own.now m.own ≡ t → Contains ms m
  pub rising : (k l : ℕ) (m o : Member) → k < l → slice_get ms k ≡ Some m → slice_get ms l ≡ Some o → m.own < o.own

pub none_kept : (s : Stage) (t : ℕ) (members ms : List Member) → ms ≡ [] → AreKept s t members 0 ms
none_kept s t members ms none = subst (AreKept s t members 0) (sym none) (record {
  each = λ k m at. absurd (contains_nil m (contains_at [] k m at));
  own = λ k m at. absurd (contains_nil m (contains_at [] k m at));
  all = λ j m below at same. absurd (omega (arith, below));
  rising = λ k l m o order at_k at_l. absurd (contains_nil m (contains_at [] k m at_k));
})

abbrev RisesTo : List Member → Type 0
RisesTo members = (k l : ℕ) (m o : Member) → k < l → slice_get members k ≡ Some m → slice_get members l ≡ Some o → m.own < o.own

pub one_kept : (s : Stage) (t : ℕ) (members : List Member) (i : ℕ) (x : Member) (ms : List Member) → RisesTo members → slice_get members i ≡ Some x → thread_at s.own.now x.own ≡ t → AreKept s t members i ms → AreKept s t members (i + 1) (ms ++ x ∷ [])
one_kept s t members i x ms rises at_i thread before = record { each = each; own = own; all = all; rising = rising }
  where
    each : (k : ℕ) (m : Member) → slice_get (ms ++ x ∷ []) k ≡ Some m → (j : ℕ) × (j < i + 1) × (slice_get members j ≡ Some m)
    each k m at = elim (pushed ms x m k at) [
      | inl old ↦ (let (j, below, at_j) = before.each k m old in (j, omega (arith, below), at_j))
      | inr (last, same) ↦ (i, omega arith, at_i ∙ ap Some same)
    ]

    own : (k : ℕ) (m : Member) → slice_get (ms ++ x ∷ []) k ≡ Some m → thread_at s.own.now m.own ≡ t
    own k m at = elim (pushed ms x m k at) [ inl old ↦ before.own k m old | inr (last, same) ↦ subst (λ (y : Member). thread_at s.own.now y.own ≡ t) same thread ]

    all : (j : ℕ) (m : Member) → j < i + 1 → slice_get members j ≡ Some m → thread_at s.own.now m.own ≡ t → Contains (ms ++ x ∷ []) m
    all j m below at_j same = elim (cases_eq j i) [
      | inl eq ↦ subst (Contains (ms ++ x ∷ [])) (one (sym at_i ∙ ap (slice_get members) (sym eq) ∙ at_j)) (contains_at (ms ++ x ∷ []) (length ms + 0) x (aft ms (x ∷ []) 0 x refl))
      | inr apart ↦ (let (q, at) = place_of ms m (before.all j m (omega arith) at_j same) in contains_at (ms ++ x ∷ []) q m (fore ms (x ∷ []) q m at))
    ]

    rising : (k l : ℕ) (m o : Member) → k < l → slice_get (ms ++ x ∷ []) k ≡ Some m → slice_get (ms ++ x ∷ []) l ≡ Some o → m.own < o.own
    rising k l m o order at_k at_l = go (pushed ms x m k at_k) (pushed ms x o l at_l)
      where
        go : (slice_get ms k ≡ Some m) ⊎ ((k ≡ length ms) × (x ≡ m)) → (slice_get ms l ≡ Some o) ⊎ ((l ≡ length ms) × (x ≡ o)) → m.own < o.own
        go (inl h) (inl g) = before.rising k l m o order h g
        go (inl h) (inr (last, same)) = let (j, below, at_j) = before.each k m h in rises j i m o below at_j (at_i ∙ ap Some same)
        go (inr (last, same)) (inl g) = let within = slice_get_within ms l o g in absurd (omega arith)
        go (inr (last, same)) (inr (last', same')) = absurd (omega arith)

pub other_kept : (s : Stage) (t : ℕ) (members : List Member) (i : ℕ) (x : Member) (ms : List Member) → slice_get members i ≡ Some x → (thread_at s.own.now x.own ≡ t → ⊥) → AreKept s t members i ms → AreKept s t members (i + 1) ms
other_kept s t members i x ms at_i other before = record {
  each = λ k m at. (let (j, below, at_j) = before.each k m at in (j, omega (arith, below), at_j));
  own = before.own;
  all = λ j m below at_j same. elim (cases_eq j i) [
    | inl eq ↦ absurd (other (subst (λ (y : Member). thread_at s.own.now y.own ≡ t) (one (sym at_j ∙ ap (slice_get members) eq ∙ at_i)) same))
    | inr apart ↦ before.all j m (omega arith) at_j same
  ];
  rising = before.rising;
}

pub kept_next : (s : Stage) (t : ℕ) (members : List Member) (i : ℕ) (x : Member) (ms new : List Member) → RisesTo members → slice_get members i ≡ Some x → (thread_at s.own.now x.own ≡ t → new ≡ ms ++ x ∷ []) → ((thread_at s.own.now x.own ≡ t → ⊥) → new ≡ ms) →
    AreKept s t members i ms → AreKept s t members (i + 1) new
kept_next s t members i x ms new rises at_i own other before = elim (cases_eq (thread_at s.own.now x.own) t) [
  | inl same ↦ subst (AreKept s t members (i + 1)) (sym (own same)) (one_kept s t members i x ms rises at_i same before)
  | inr apart ↦ subst (AreKept s t members (i + 1)) (sym (other apart)) (other_kept s t members i x ms at_i apart before)
]

pub all_kept : (s : Stage) (t n i : ℕ) (members ms : List Member) → AreMembers s n members → ((m : Member) → IsMember s m → m.own < n) → length members ≤ i → AreKept s t members i ms → AreOfThread s t ms
all_kept s t n i members ms are inside past kept = record {
  row = record {
    each = λ k m at. (let (j, below, at_j) = kept.each k m at in are.each j m at_j);
    alike = λ k l m o at_k at_l. kept.own k m at_k ∙ sym (kept.own l o at_l);
    rising = kept.rising;
  };
  own = kept.own;
  all = λ m is_m thread. (let (j, at_j) = place_of members m (are.all m is_m (inside m is_m)) in kept.all j m (let within = slice_get_within members j m at_j in omega arith) at_j thread);
}
