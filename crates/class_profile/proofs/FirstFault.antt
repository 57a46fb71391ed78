-- The first class with a fault of a kind.
use Rattle.std.proofs.Common.{◌≡◌, ◌<◌, ◌≤◌, ◌+◌, ℕ, List, Some, length, take, slice_get, arith, sym, subst, inl, inr}
use Rattle.std.proofs.lemmas.Option.{slice_get_within}
use Rattle.relations.specs.Least.{IsLeast}
use Rattle.class_format.specs.declared.record.ClassRecord.{ClassRecord}
use Rattle.class_profile.proofs.Order.{below_next, not_below}
use Rattle.class_profile.proofs.Places.{same_at}
use Rattle.class_profile.specs.Profile.{Meets, AllMeet, HasFault}
use Rattle.class_profile.specs.declared.refusal.ClassKind.{ClassKind}

-- so many classes meet the rule of a kind
abbrev pub MetBefore : ClassKind → List ClassRecord → ℕ → Type 0
MetBefore kind classes n = (k : ℕ) (class : ClassRecord) → k < n → slice_get classes k ≡ Some class → Meets kind (take k classes) class

module _ (kind : ClassKind) (classes : List ClassRecord) where
  pub met_none : MetBefore kind classes 0
  met_none k class below there = absurd (omega arith)

  pub met_all : (n : ℕ) → length classes ≤ n → MetBefore kind classes n → AllMeet kind classes
  met_all n all met k class there = met k class (omega (arith, slice_get_within classes k class there)) there

  module _ (n : ℕ) (class : ClassRecord) (here : slice_get classes n ≡ Some class) where
    at_here : (k : ℕ) (other : ClassRecord) → k ≡ n → slice_get classes k ≡ Some other → Meets kind (take n classes) class → Meets kind (take k classes) other
    at_here k other same there met =
        let e : class ≡ other = same_at classes n class other here (subst (λ (i : ℕ). slice_get classes i ≡ Some other) same there) in
        subst (λ (i : ℕ). Meets kind (take i classes) other) (sym same) (subst (λ (r : ClassRecord). Meets kind (take n classes) r) e met)

    pub met_more : Meets kind (take n classes) class → MetBefore kind classes n → MetBefore kind classes (n + 1)
    met_more met before k other below there = elim (below_next k n below) [
      | inl less ↦ before k other less there
      | inr same ↦ at_here k other same there met
    ]

    pub first_fault : (Meets kind (take n classes) class → ⊥) → MetBefore kind classes n → IsLeast (HasFault kind classes) n
    first_fault broken before = record {
      holds = record { class = class; there = here; broken = broken };
      least = λ m fault. not_below m n (λ less. fault.broken (before m fault.class less fault.there));
    }
