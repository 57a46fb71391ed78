-- The earlier of the first faults of two sorts is the first of both.
use Rattle.std.proofs.Common.{◌≡◌, ◌<◌, ◌⊎◌, inl, inr, ℕ, Bool, true, false, Option, Some, None, refl, arith, nat_eq, nat_lt, ◌||◌, ◌&&◌}
use Rattle.std.specs.Prelude.{if◌then◌else◌}
use Rattle.std.proofs.lemmas.Bool.Decides.{nat_tests}
use Rattle.reached_methods.specs.CodeFaults.{rank}
use Rattle.reached_methods.specs.FirstFault.{IsFirstOf, IsFirstOrNone, comes_first, earlier_of}
use Rattle.reached_methods.specs.declared.fault.Fault.{Fault}
use Rattle.reached_methods.specs.declared.refusal.CodeKind.{CodeKind}
use Rattle.reached_methods.specs.declared.refusal.Detail.{Detail}

later_place : (p k q j x y : ℕ) → (nat_lt p q || (nat_eq p q && nat_lt k j)) ≡ false → x < q → (x < p) ⊎ ((x ≡ p) × (y < k))
later_place p k q j x y e lt = inl (grind (arith, nat_tests))

later_kind : (p k q j x y : ℕ) → (nat_lt p q || (nat_eq p q && nat_lt k j)) ≡ false → x ≡ q → y < j → (x < p) ⊎ ((x ≡ p) × (y < k))
later_kind p k q j x y e same lt = grind (arith, nat_tests)

-- what is earlier than a fault is earlier than each that doesn't come before it
still_earlier : (p k q j x y : ℕ) → (nat_lt p q || (nat_eq p q && nat_lt k j)) ≡ false → (x < q) ⊎ ((x ≡ q) × (y < j)) → (x < p) ⊎ ((x ≡ p) × (y < k))
still_earlier p k q j x y e (inl lt) = later_place p k q j x y e lt
still_earlier p k q j x y e (inr h) = later_kind p k q j x y e h.0 h.1

earlier_place : (p k q j x y : ℕ) → (nat_lt p q || (nat_eq p q && nat_lt k j)) ≡ true → x < p → (x < q) ⊎ ((x ≡ q) × (y < j))
earlier_place p k q j x y e lt = inl (grind (arith, nat_tests))

earlier_kind : (p k q j x y : ℕ) → (nat_lt p q || (nat_eq p q && nat_lt k j)) ≡ true → x ≡ p → y < k → (x < q) ⊎ ((x ≡ q) × (y < j))
earlier_kind p k q j x y e same lt = grind (arith, nat_tests)

-- what is earlier than a fault is earlier than each that it comes before
more_earlier : (p k q j x y : ℕ) → (nat_lt p q || (nat_eq p q && nat_lt k j)) ≡ true → (x < p) ⊎ ((x ≡ p) × (y < k)) → (x < q) ⊎ ((x ≡ q) × (y < j))
more_earlier p k q j x y e (inl lt) = earlier_place p k q j x y e lt
more_earlier p k q j x y e (inr h) = earlier_kind p k q j x y e h.0 h.1

both : (P Q R : ℕ → CodeKind → Detail → Type 0) (a b : Fault) (t : Bool) → comes_first b a ≡ t →
    ((pc : ℕ) (kind : CodeKind) (detail : Detail) → P pc kind detail → R pc kind detail) →
    ((pc : ℕ) (kind : CodeKind) (detail : Detail) → Q pc kind detail → R pc kind detail) →
    ((pc : ℕ) (kind : CodeKind) (detail : Detail) → R pc kind detail → P pc kind detail ⊎ Q pc kind detail) →
    IsFirstOf P a → IsFirstOf Q b → IsFirstOrNone R (if t then Some b else Some a)
both P Q R a b true e p q split fp fq = record {
  holds = q b.pc b.kind b.detail fq.holds;
  first = λ pc kind detail r earlier. elim (split pc kind detail r) [
    | inl h ↦ fp.first pc kind detail h (more_earlier b.pc (rank b.kind) a.pc (rank a.kind) pc (rank kind) e earlier)
    | inr h ↦ fq.first pc kind detail h earlier
  ];
}
both P Q R a b false e p q split fp fq = record {
  holds = p a.pc a.kind a.detail fp.holds;
  first = λ pc kind detail r earlier. elim (split pc kind detail r) [
    | inl h ↦ fp.first pc kind detail h earlier
    | inr h ↦ fq.first pc kind detail h (still_earlier b.pc (rank b.kind) a.pc (rank a.kind) pc (rank kind) e earlier)
  ];
}

pub merged : (P Q R : ℕ → CodeKind → Detail → Type 0) (first second : Option Fault) →
    ((pc : ℕ) (kind : CodeKind) (detail : Detail) → P pc kind detail → R pc kind detail) →
    ((pc : ℕ) (kind : CodeKind) (detail : Detail) → Q pc kind detail → R pc kind detail) →
    ((pc : ℕ) (kind : CodeKind) (detail : Detail) → R pc kind detail → P pc kind detail ⊎ Q pc kind detail) →
    IsFirstOrNone P first → IsFirstOrNone Q second → IsFirstOrNone R (earlier_of first second)
merged P Q R None None p q split fp fq = record {
  none = λ pc kind detail r. elim (split pc kind detail r) [ inl h ↦ fp.none pc kind detail h | inr h ↦ fq.none pc kind detail h ];
}
merged P Q R None (Some b) p q split fp fq = record {
  holds = q b.pc b.kind b.detail fq.holds;
  first = λ pc kind detail r earlier. elim (split pc kind detail r) [ inl h ↦ fp.none pc kind detail h | inr h ↦ fq.first pc kind detail h earlier ];
}
merged P Q R (Some a) None p q split fp fq = record {
  holds = p a.pc a.kind a.detail fp.holds;
  first = λ pc kind detail r earlier. elim (split pc kind detail r) [ inl h ↦ fp.first pc kind detail h earlier | inr h ↦ fq.none pc kind detail h ];
}
merged P Q R (Some a) (Some b) p q split fp fq = both P Q R a b (comes_first b a) refl p q split fp fq

-- the first of a sort is the first of each sort that holds alike
pub same_first : (P R : ℕ → CodeKind → Detail → Type 0) (fault : Option Fault) →
    ((pc : ℕ) (kind : CodeKind) (detail : Detail) → P pc kind detail → R pc kind detail) →
    ((pc : ℕ) (kind : CodeKind) (detail : Detail) → R pc kind detail → P pc kind detail) →
    IsFirstOrNone P fault → IsFirstOrNone R fault
same_first P R None p r f = record { none = λ pc kind detail h. f.none pc kind detail (r pc kind detail h) }
same_first P R (Some a) p r f = record {
  holds = p a.pc a.kind a.detail f.holds;
  first = λ pc kind detail h earlier. f.first pc kind detail (r pc kind detail h) earlier;
}
