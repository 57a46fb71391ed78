-- What the checks of single kinds find.
use Rattle.std.specs.Prelude.{◌≡◌, ◌<◌, ℕ, List, Option, Some, None, ⊤}
use Rattle.relations.specs.Least.{IsLeast}
use Rattle.class_format.specs.declared.record.ClassRecord.{ClassRecord}
use Rattle.class_profile.specs.Members.{HasOneMain}
use Rattle.class_profile.specs.Profile.{AllMeet, HasFault, rank}
use Rattle.class_profile.specs.declared.refusal.ClassKind.{ClassKind}
use Rattle.class_profile.specs.declared.refusal.ClassKind.TheVariants.{NoMain}
use Rattle.class_profile.specs.declared.refusal.ProfileRefusal.{ProfileRefusal}
use Rattle.class_profile.specs.declared.refusal.ProfileRefusal.TheVariants.{Refused, Memory}

-- this is the first class with the fault of this kind; or none has it
abbrev pub IsFirstWith : ClassKind → List ClassRecord → Option ℕ → Type 0
IsFirstWith kind classes (Some place) = IsLeast (HasFault kind classes) place
IsFirstWith kind classes None = AllMeet kind classes

-- the kinds whose rule looks at one class alone: all behind NoMain
abbrev pub IsOwn : ClassKind → Type 0
IsOwn kind = 2 < rank kind

-- the refusal names this kind and the first class with its fault
abbrev pub IsBreach : ClassKind → List ClassRecord → ProfileRefusal → Type 0
IsBreach kind classes (Refused other (Some place)) = (other ≡ kind) × IsLeast (HasFault kind classes) place
IsBreach kind classes (Refused other None) = ⊥
IsBreach kind classes Memory = ⊤

-- the refusal is NoMain, and there isn't one main
pub record IsMainless (classes : List ClassRecord) (refusal : ProfileRefusal) : Type 0 where
  pub is : refusal ≡ Refused NoMain None
  pub none : HasOneMain classes → ⊥
