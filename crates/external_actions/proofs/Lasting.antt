-- The last committed action of each thread, member by member.
use Rattle.std.proofs.Common.{◌≡◌, ◌<◌, ◌≤◌, ◌+◌, ◌↔◌, ℕ, List, Option, Some, None, Bool, false, IsTrue, length, slice_get, slice_set, slice_index_or, arith, refl, sym, ◌∙◌, ap, subst, inl, inr}
use Rattle.std.proofs.lemmas.Bool.{cases_eq}
use Rattle.std.proofs.lemmas.List.{length-set, get_or-set_same, get_or-set_other}
use Rattle.std.proofs.lemmas.Option.{slice_get_within}
use Rattle.program.proofs.Lists.{place_of}
use Rattle.action_orders.specs.Actions.{Of}
use Rattle.orders.specs.Tables.{action_of}
use Rattle.orders.proofs.Places.{one}
use Rattle.orders.proofs.Said.{at_flat, not_true}
use Rattle.orders.proofs.Tabled.{few_at}
use Rattle.step_members.specs.declared.stage.Stage.{Stage}
use Rattle.step_members.specs.declared.table.Member.{Member}
use Rattle.step_members.specs.Members.{AreMembers, IsMember}
use Rattle.step_members.specs.Stages.{IsStage}
use Rattle.writes_between.specs.Before.{Precedes, thread_of}
use Rattle.writes_between.proofs.Passing.{later_too}
use Rattle.external_actions.specs.Last.{AreLastCommitted, IsLastCommitted, PrecedesBy, PrecedesCommitted}

-- the last place among the first i members
pub record IsLastAmong (s : Stage) (t : ℕ) (members : List Member) (i : ℕ) (o : Option ℕ) : Type 0 where
  pub found : (x : ℕ) → o ≡ Some x → (j : ℕ) × (m : Member) × (j < i) × (slice_get members j ≡ Some m) × (m.own ≡ x) × (thread_of s.own.now m.own ≡ t)
  pub last : (j : ℕ) (m : Member) → j < i → slice_get members j ≡ Some m → thread_of s.own.now m.own ≡ t → (x : ℕ) × (o ≡ Some x) × (m.own ≤ x)

pub record AreLastAmong (s : Stage) (members : List Member) (i : ℕ) (last : List (Option ℕ)) : Type 0 where
  pub size : length last ≡ 8
  pub each : (t : ℕ) (d : Option ℕ) → t < 8 → IsLastAmong s t members i (slice_index_or last t d)

no_some : (x : ℕ) → (let none : Option ℕ = None in none ≡ Some x) → ⊥
no_some x e = cc

pub none_among : (s : Stage) (members : List Member) (last : List (Option ℕ)) → length last ≡ 8 → ((t : ℕ) (d : Option ℕ) → t < 8 → slice_index_or last t d ≡ None) → AreLastAmong s members 0 last
none_among s members last size none = record {
  size = size;
  each = λ t d few. subst (IsLastAmong s t members 0) (sym (none t d few)) (record { found = λ x is. absurd (no_some x is); last = λ j m below at thread. absurd (omega (arith, below)) });
}

abbrev Rises : List Member → Type 0
Rises members = (k l : ℕ) (m o : Member) → k < l → slice_get members k ≡ Some m → slice_get members l ≡ Some o → m.own < o.own

here : (s : Stage) (members : List Member) (i : ℕ) (m : Member) → Rises members → slice_get members i ≡ Some m → IsLastAmong s (thread_of s.own.now m.own) members (i + 1) (Some m.own)
here s members i m rises at = record {
  found = λ x is. (i, m, omega arith, at, one is, refl);
  last = λ j o below at_o thread. (
    m.own,
    refl,
    elim (cases_eq j i) [
      | inl eq ↦ (let same : o ≡ m = one (sym at_o ∙ ap (slice_get members) eq ∙ at) in let own = ap (λ (y : Member). y.own) same in omega arith)
      | inr apart ↦ (let rise = rises j i o m (omega arith) at_o at in omega arith)
    ],
  );
}

elsewhere : (s : Stage) (t : ℕ) (members : List Member) (i : ℕ) (m : Member) (o : Option ℕ) → slice_get members i ≡ Some m → (t ≡ thread_of s.own.now m.own → ⊥) → IsLastAmong s t members i o → IsLastAmong s t members (i + 1) o
elsewhere s t members i m o at other before = record {
  found = λ x is. (let (j, y, below, at_y, own, thread) = before.found x is in (j, y, omega (arith, below), at_y, own, thread));
  last = λ j y below at_y thread. elim (cases_eq j i) [
    | inl eq ↦ absurd (other (sym thread ∙ ap (λ (z : Member). thread_of s.own.now z.own) (one (sym at_y ∙ ap (slice_get members) eq ∙ at))))
    | inr apart ↦ before.last j y (omega arith) at_y thread
  ];
}

pub one_more : (s : Stage) (members : List Member) (i t : ℕ) (m : Member) (last : List (Option ℕ)) → Rises members → slice_get members i ≡ Some m → t ≡ thread_of s.own.now m.own → t < 8 → AreLastAmong s members i last → AreLastAmong s members (i + 1) (slice_set last t (Some m.own))
one_more s members i t m last rises at is few before = record {
  size = length-set last t (Some m.own) ∙ before.size;
  each = λ u d below. elim (cases_eq u t) [
    | inl eq ↦ subst (IsLastAmong s u members (i + 1)) (sym (ap (λ (n : ℕ). slice_index_or (slice_set last t (Some m.own)) n d) eq ∙ get_or-set_same last t (Some m.own) d (let size = before.size in omega arith)))
        (subst (λ (n : ℕ). IsLastAmong s n members (i + 1) (Some m.own)) (sym (eq ∙ is)) (here s members i m rises at))
    | inr apart ↦ subst (IsLastAmong s u members (i + 1)) (sym (get_or-set_other last t u (Some m.own) d apart)) (elsewhere s u members i m (slice_index_or last u d) at (λ same. apart (same ∙ sym is)) (before.each u d below))
  ];
}

pub all_among : (s : Stage) (n i : ℕ) (members : List Member) (last : List (Option ℕ)) → AreMembers s n members → ((m : Member) → IsMember s m → m.own < n) → length members ≤ i → AreLastAmong s members i last → AreLastCommitted s last
all_among s n i members last are inside past among = record {
  size = among.size;
  each = λ t d few. record {
    found = λ x is. (let (j, m, below, at, own, thread) = (among.each t d few).found x is in (m, are.each j m at, own, thread));
    last = λ m is_m thread. (let (j, at) = place_of members m (are.all m is_m (inside m is_m)) in (among.each t d few).last j m (let within = slice_get_within members j m at in omega arith) at thread);
  };
}

-- ---- What happens before it

pub last_inside : (s : Stage) (t x : ℕ) (o : Option ℕ) → IsLastCommitted s t o → o ≡ Some x → x < length s.own.now.flat.entries.items
last_inside s t x o last is = let (m, is_m, own, thread) = last.found x is in let inside = is_m.in_own in omega arith

pub by_last : (s : Stage) (t i x : ℕ) (o : Option ℕ) (b : Bool) → IsStage s → IsLastCommitted s t o → o ≡ Some x → (IsTrue b ↔ Precedes s.own.now i x) → IsTrue b ↔ PrecedesBy s t i
by_last s t i x o b stage last is iff =
    let (m, is_m, own, thread) = last.found x is in (
      λ fits. (m, is_m, thread, subst (Precedes s.own.now i) (sym own) (iff.0 fits)),
      λ (y, is_y, thread_y, precedes). iff.1 (let (z, is_z, below) = last.last y is_y thread_y in let eq : x ≡ z = one (sym is ∙ is_z) in
          subst (Precedes s.own.now i) own (later_too s.own.now (Of (action_of s.own.now.flat i)) y.own m.own stage.own is_y.in_own is_m.in_own (thread_y ∙ sym thread) (omega arith) precedes)),
    )

pub by_none : (s : Stage) (t i : ℕ) (o : Option ℕ) → IsLastCommitted s t o → o ≡ None → IsTrue false ↔ PrecedesBy s t i
by_none s t i o last none = (
  λ never. absurd (not_true false refl never),
  λ (y, is_y, thread, precedes). (let (z, is_z, below) = last.last y is_y thread in absurd (no_some z (sym none ∙ is_z))),
)

pub some_thread : (s : Stage) (t i : ℕ) (b : Bool) → (IsTrue b ↔ PrecedesBy s t i) → IsTrue b → PrecedesCommitted s i
some_thread s t i b iff fits = let (m, is_m, thread, precedes) = iff.0 fits in (m, is_m, precedes)

pub no_thread : (s : Stage) (i : ℕ) → IsStage s → ((t : ℕ) → t < 8 → PrecedesBy s t i → ⊥) → PrecedesCommitted s i → ⊥
no_thread s i stage none (m, is_m, precedes) =
    none (thread_of s.own.now m.own) (few_at s.own.now.flat m.own (action_of s.own.now.flat m.own) stage.own.tables (at_flat s.own.now m.own stage.own is_m.in_own)) (m, is_m, refl, precedes)
