-- The order of the kinds.
use Rattle.std.proofs.Common.{◌≡◌, ◌<◌, ◌≤◌, ◌+◌, ℕ, zero, suc, List, Option, Some, None, arith, refl, sym, ap, ◌∙◌, subst, inl, inr}
use Rattle.std.proofs.lemmas.Bool.{cases_order}
use Rattle.class_format.specs.declared.record.ClassRecord.{ClassRecord}
use Rattle.class_profile.proofs.Order.{below_next}
use Rattle.class_profile.specs.Checks.{IsBreach, IsMainless}
use Rattle.class_profile.specs.Profile.{AllMeet, rank, IsFreeOf, IsFirstClass, IsWithoutMain, IsFaultOf, IsFirstFault, IsRefusedFor}
use Rattle.class_profile.specs.declared.refusal.ClassKind.{ClassKind}
use Rattle.class_profile.specs.declared.refusal.ClassKind.TheVariants.{DuplicateClass, NoMain, ClassInit, InstanceField, FieldType, Constructor, ThreadClass, NameForm}
use Rattle.class_profile.specs.declared.refusal.ProfileRefusal.{ProfileRefusal}
use Rattle.class_profile.specs.declared.refusal.ProfileRefusal.TheVariants.{Refused, Memory}

-- no kind before this one has a fault
abbrev pub FreeBefore : ClassKind → List ClassRecord → Type 0
FreeBefore kind classes = (other : ClassKind) → rank other < rank kind → IsFreeOf other classes

-- the kind with a rank
abbrev kind_of : ℕ → ClassKind
kind_of zero = NameForm
kind_of (suc zero) = DuplicateClass
kind_of (suc (suc zero)) = NoMain
kind_of (suc (suc (suc zero))) = ClassInit
kind_of (suc (suc (suc (suc zero)))) = InstanceField
kind_of (suc (suc (suc (suc (suc zero))))) = FieldType
kind_of (suc (suc (suc (suc (suc (suc zero)))))) = Constructor
kind_of (suc (suc (suc (suc (suc (suc (suc zero))))))) = ThreadClass
kind_of (suc (suc (suc (suc (suc (suc (suc (suc n)))))))) = NameForm

kind_of_rank : (kind : ClassKind) → kind_of (rank kind) ≡ kind
kind_of_rank DuplicateClass = refl
kind_of_rank NoMain = refl
kind_of_rank ClassInit = refl
kind_of_rank InstanceField = refl
kind_of_rank FieldType = refl
kind_of_rank Constructor = refl
kind_of_rank ThreadClass = refl
kind_of_rank NameForm = refl

one_rank : (kind other : ClassKind) → rank other ≡ rank kind → kind ≡ other
one_rank kind other same = sym (kind_of_rank kind) ∙ ap kind_of (sym same) ∙ kind_of_rank other

some_rank : (kind : ClassKind) → 1 ≤ rank kind
some_rank DuplicateClass = omega arith
some_rank NoMain = omega arith
some_rank ClassInit = omega arith
some_rank InstanceField = omega arith
some_rank FieldType = omega arith
some_rank Constructor = omega arith
some_rank ThreadClass = omega arith
some_rank NameForm = omega arith

module _ (classes : List ClassRecord) where
  pub first_kind : FreeBefore DuplicateClass classes
  first_kind other below = absurd (omega (arith, some_rank other))

  pub next_kind : (kind next : ClassKind) → rank next ≡ rank kind + 1 → IsFreeOf kind classes → FreeBefore kind classes → FreeBefore next classes
  next_kind kind next follows free before other below = elim (below_next (rank other) (rank kind) (omega arith)) [
    | inl less ↦ before other less
    | inr same ↦ subst (λ (k : ClassKind). IsFreeOf k classes) (one_rank kind other same) free
  ]

  -- a kind other than NoMain
  own_fault : (kind : ClassKind) (class : Option ℕ) → (rank kind ≡ 2 → ⊥) → IsFirstClass kind classes class → IsFaultOf kind classes class
  own_fault DuplicateClass class own f = f
  own_fault NoMain class own f = absurd (own refl)
  own_fault ClassInit class own f = f
  own_fault InstanceField class own f = f
  own_fault FieldType class own f = f
  own_fault Constructor class own f = f
  own_fault ThreadClass class own f = f
  own_fault NameForm class own f = f

  -- a kind with a fault has not none
  breached : (kind : ClassKind) (class : Option ℕ) → IsFirstClass kind classes class → AllMeet kind classes → ⊥
  breached kind class fault met = fault.first.holds.broken (met fault.place fault.first.holds.class fault.first.holds.there)

  pub refuted : (kind : ClassKind) (class : Option ℕ) → IsFaultOf kind classes class → IsFreeOf kind classes → ⊥
  refuted DuplicateClass class fault f = breached DuplicateClass class fault f
  refuted NoMain class fault f = fault.no_main f
  refuted ClassInit class fault f = breached ClassInit class fault f
  refuted InstanceField class fault f = breached InstanceField class fault f
  refuted FieldType class fault f = breached FieldType class fault f
  refuted Constructor class fault f = breached Constructor class fault f
  refuted ThreadClass class fault f = breached ThreadClass class fault f
  refuted NameForm class fault f = breached NameForm class fault f

  -- one kind names one class
  first_class : (kind : ClassKind) (class named : Option ℕ) → IsFirstClass kind classes class → IsFirstClass kind classes named → class ≡ named
  first_class kind class named first second =
      let below = first.first.least second.place second.first.holds in
      let above = second.first.least first.place first.first.holds in
      let same : first.place ≡ second.place = omega arith in
      first.class_is ∙ ap Some same ∙ sym second.class_is

  one_class : (kind : ClassKind) (class named : Option ℕ) → IsFaultOf kind classes class → IsFaultOf kind classes named → class ≡ named
  one_class DuplicateClass class named f g = first_class DuplicateClass class named f g
  one_class NoMain class named f g = f.no_class ∙ sym g.no_class
  one_class ClassInit class named f g = first_class ClassInit class named f g
  one_class InstanceField class named f g = first_class InstanceField class named f g
  one_class FieldType class named f g = first_class FieldType class named f g
  one_class Constructor class named f g = first_class Constructor class named f g
  one_class ThreadClass class named f g = first_class ThreadClass class named f g
  one_class NameForm class named f g = first_class NameForm class named f g

  pub one_fault : (kind other : ClassKind) (class named : Option ℕ) → IsFirstFault classes kind class → IsFirstFault classes other named → (kind ≡ other) × (class ≡ named)
  one_fault kind other class named first second = elim (cases_order (rank kind) (rank other)) [
    | inl same ↦
        let is = one_rank kind other (sym same) in
        (is, one_class kind class named first.fault (subst (λ (k : ClassKind). IsFaultOf k classes named) (sym is) second.fault))
    | inr apart ↦ elim apart [
      | inl less ↦ absurd (refuted kind class first.fault (second.none_before kind less))
      | inr more ↦ absurd (refuted other named second.fault (first.none_before other more))
    ]
  ]

  pub refused : (kind : ClassKind) (refusal : ProfileRefusal) → (rank kind ≡ 2 → ⊥) → FreeBefore kind classes → IsBreach kind classes refusal → IsRefusedFor classes refusal
  refused kind Memory own before breach = tt
  refused kind (Refused other None) own before breach = absurd breach
  refused kind (Refused other (Some place)) own before (same, least) =
      let fault = own_fault kind (Some place) own (record { place = place; class_is = refl; first = least }) in (
        subst (λ (k : ClassKind). IsFirstFault classes k (Some place)) (sym same) (record { none_before = before; fault = fault }),
        λ of_profile. refuted kind (Some place) fault (of_profile kind),
      )

  pub mainless : (refusal : ProfileRefusal) → FreeBefore NoMain classes → IsMainless classes refusal → IsRefusedFor classes refusal
  mainless refusal before none =
      let fault : IsWithoutMain classes None = record { no_class = refl; no_main = none.none } in
      subst (IsRefusedFor classes) (sym none.is) (record { none_before = before; fault = fault }, λ of_profile. none.none (of_profile NoMain))
