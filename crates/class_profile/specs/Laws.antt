-- What holds of the first faults of classes.
use Rattle.std.specs.Prelude.{◌≡◌, ℕ, List, Option}
use Rattle.class_format.specs.declared.record.ClassRecord.{ClassRecord}
use Rattle.class_profile.specs.Profile.{IsFirstFault, IsOfProfile}
use Rattle.class_profile.specs.declared.refusal.ClassKind.{ClassKind}

-- classes have at most one first fault
abbrev pub OneFirstFault : Type 0
OneFirstFault = (classes : List ClassRecord) (kind other : ClassKind) (class named : Option ℕ) →
    IsFirstFault classes kind class → IsFirstFault classes other named → (kind ≡ other) × (class ≡ named)

-- classes of the profile have none
abbrev pub NoFaultOfProfile : Type 0
NoFaultOfProfile = (classes : List ClassRecord) (kind : ClassKind) (class : Option ℕ) → IsFirstFault classes kind class → IsOfProfile classes → ⊥
