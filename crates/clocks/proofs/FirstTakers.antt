-- First takers, one event after another.
use Rattle.std.proofs.Common.{◌≡◌, ◌≢◌, ◌<◌, ◌≤◌, ◌+◌, ℕ, List, Some, None, Option, slice_get, slice_index, slice_index_or, slice_set, length, min, arith, refl, sym, ◌∙◌, ap, subst, inl, inr}
use Rattle.std.proofs.lemmas.Bool.{cases_lt, cases_eq}
use Rattle.std.proofs.lemmas.List.{get_or-set_same, get_or-set_other, length-set}
use Rattle.clocks.specs.declared.clock.Clock.{Clock}
use Rattle.clocks.specs.declared.pass.Event.{Event}
use Rattle.clocks.specs.Events.{IsTaker, FindsTakers, FindAllTakers}

one : {X : Type 0} {x y : X} → Some x ≡ Some y → x ≡ y
one e = cc

-- the taker is the event at this place, which takes from that channel
taken : (events : List Event) (c t j : ℕ) (b : Event) → slice_get events j ≡ Some b → IsTaker events c t j → (b.takes ≡ Some c) × (b.thread ≡ t)
taken events c t j b is taker = (
  ap (λ (x : Event). x.takes) (one (sym is ∙ taker.is_event)) ∙ taker.takes,
  ap (λ (x : Event). x.thread) (one (sym is ∙ taker.is_event)) ∙ taker.thread,
)

-- an event that is no such taker changes nothing
finds_more : (events : List Event) (j c : ℕ) (first : Clock) → ((t : ℕ) → t < 8 → IsTaker events c t j → slice_index first.known t ≤ j) → FindsTakers events j c first → FindsTakers events (j + 1) c first
finds_more events j c first here finds = record {
  found = finds.found;
  least = λ t r few before taker. elim (cases_eq r j) [
    | inl e ↦ subst (λ (n : ℕ). slice_index first.known t ≤ n) (sym e) (here t few (subst (IsTaker events c t) e taker))
    | inr apart ↦ finds.least t r few (omega arith) taker
  ];
}

finds_with : (events : List Event) (j c : ℕ) (b : Event) (first after : Clock) → slice_get events j ≡ Some b → j < length events → b.takes ≡ Some c → b.thread < 8 →
    slice_index after.known b.thread ≡ min (slice_index first.known b.thread) j → ((t : ℕ) → t ≢ b.thread → slice_index after.known t ≡ slice_index first.known t) →
    FindsTakers events j c first → FindsTakers events (j + 1) c after
finds_with events j c b first after is inside takes few own others finds = record { found = found; least = least }
  where
    found : (t : ℕ) → t < 8 → slice_index after.known t < length events → IsTaker events c t (slice_index after.known t)
    found t within small = elim (cases_eq t b.thread) [
      | inl e ↦ subst (λ (u : ℕ). IsTaker events c u (slice_index after.known u)) (sym e) (elim (cases_lt (slice_index first.known b.thread) j) [
        | inl below ↦ (let same : slice_index first.known b.thread ≡ slice_index after.known b.thread = omega arith in
            subst (IsTaker events c b.thread) same (finds.found b.thread few (omega arith)))
        | inr above ↦ (let same : j ≡ slice_index after.known b.thread = omega arith in
            subst (IsTaker events c b.thread) same (record { event = b; is_event = is; takes = takes; thread = refl }))
      ])
      | inr apart ↦ subst (IsTaker events c t) (sym (others t apart)) (finds.found t within (subst (λ (n : ℕ). n < length events) (others t apart) small))
    ]

    least : (t r : ℕ) → t < 8 → r < j + 1 → IsTaker events c t r → slice_index after.known t ≤ r
    least t r within before taker = elim (cases_eq t b.thread) [
      | inl e ↦ subst (λ (u : ℕ). slice_index after.known u ≤ r) (sym e) (elim (cases_eq r j) [
        | inl at ↦ omega arith
        | inr earlier ↦ (let h = finds.least b.thread r few (omega arith) (subst (λ (u : ℕ). IsTaker events c u r) e taker) in omega arith)
      ])
      | inr apart ↦ subst (λ (n : ℕ). n ≤ r) (sym (others t apart)) (elim (cases_eq r j) [
        | inl at ↦ absurd (apart (sym (taken events c t j b is (subst (IsTaker events c t) at taker)).1))
        | inr earlier ↦ finds.least t r within (omega arith) taker
      ])
    ]

pub takers_told : (events : List Event) (j c : ℕ) (b : Event) (takers : List Clock) (e after : Clock) → slice_get events j ≡ Some b → j < length events → b.takes ≡ Some c → b.thread < 8 → c < length takers →
    slice_index after.known b.thread ≡ min (slice_index (slice_index_or takers c e).known b.thread) j → ((t : ℕ) → t ≢ b.thread → slice_index after.known t ≡ slice_index (slice_index_or takers c e).known t) →
    FindAllTakers events j takers → FindAllTakers events (j + 1) (slice_set takers c after)
takers_told events j c b takers e after is inside takes few room own others finds k d within = elim (cases_eq k c) [
  | inl same ↦ subst (λ (n : ℕ). FindsTakers events (j + 1) n (slice_index_or (slice_set takers c after) n d)) (sym same)
      (subst (FindsTakers events (j + 1) c) (sym (get_or-set_same takers c after d room))
      (finds_with events j c b (slice_index_or takers c e) after is inside takes few own others (finds c e room)))
  | inr apart ↦ subst (FindsTakers events (j + 1) k) (sym (get_or-set_other takers c k after d apart))
      (finds_more events j k (slice_index_or takers k d) (λ t small taker. absurd (apart (one (sym (taken events k t j b is taker).0 ∙ takes))))
      (finds k d (subst (λ (n : ℕ). k < n) (length-set takers c after) within)))
]

pub takers_left : (events : List Event) (j : ℕ) (b : Event) (takers : List Clock) → slice_get events j ≡ Some b → b.takes ≡ None → FindAllTakers events j takers → FindAllTakers events (j + 1) takers
takers_left events j b takers is none finds k d within =
    finds_more events j k (slice_index_or takers k d) (λ t small taker. absurd (no_one (sym none ∙ (taken events k t j b is taker).0))) (finds k d within)
  where
    no_one : {x : ℕ} → (let none : Option ℕ = None in none ≡ Some x) → ⊥
    no_one e = cc

-- no event stands before the first
pub takers_none : (events : List Event) (takers : List Clock) → ((c t : ℕ) (d : Clock) → c < length takers → t < 8 → slice_index (slice_index_or takers c d).known t ≡ length events) → FindAllTakers events 0 takers
takers_none events takers none c d within = record {
  found = λ t few small. absurd (let h = none c t d within few in omega arith);
  least = λ t r few before taker. absurd (omega arith);
}
