-- Which classes are of the profile, and the first fault of those that aren't (docs/PROFILE.md, "Classes of the profile").
use Rattle.std.specs.Prelude.{◌≡◌, ◌≢◌, ◌<◌, ℕ, List, Option, Some, None, All, slice_get, take, ⊤}
use Rattle.relations.specs.Least.{IsLeast}
use Rattle.class_format.specs.declared.record.ClassRecord.{ClassRecord}
use Rattle.class_names.specs.Names.{name_of}
use Rattle.class_profile.specs.Members.{HasNoClassInit, HasStaticFields, HasPlainTypes, HasOneMain}
use Rattle.class_profile.specs.NameForm.{HasPlainNames}
use Rattle.class_profile.specs.Threads.{HasPlainConstructor, HasPlainKind}
use Rattle.class_profile.specs.declared.refusal.ClassKind.{ClassKind}
use Rattle.class_profile.specs.declared.refusal.ClassKind.TheVariants.{DuplicateClass, NoMain, ClassInit, InstanceField, FieldType, Constructor, ThreadClass, NameForm}
use Rattle.class_profile.specs.declared.refusal.ProfileRefusal.{ProfileRefusal}
use Rattle.class_profile.specs.declared.refusal.ProfileRefusal.TheVariants.{Refused, Memory}

-- ---- The rules, one for each kind of fault

-- the name of the class is that of none before it
abbrev pub IsNew : List ClassRecord → ClassRecord → Type 0
IsNew before class = All (λ other. name_of other ≢ name_of class) before

-- what a class has to meet so that it has no fault of a kind, behind these classes. NoMain is no fault of a single class
abbrev pub Meets : ClassKind → List ClassRecord → ClassRecord → Type 0
Meets DuplicateClass before class = IsNew before class
Meets NoMain before class = ⊤
Meets ClassInit before class = HasNoClassInit class
Meets InstanceField before class = HasStaticFields class
Meets FieldType before class = HasPlainTypes class
Meets Constructor before class = HasPlainConstructor class
Meets ThreadClass before class = HasPlainKind class
Meets NameForm before class = HasPlainNames class

-- all classes meet the rule of a kind
abbrev pub AllMeet : ClassKind → List ClassRecord → Type 0
AllMeet kind classes = (place : ℕ) (class : ClassRecord) → slice_get classes place ≡ Some class → Meets kind (take place classes) class

-- the class at this place has the fault of this kind
pub record HasFault (kind : ClassKind) (classes : List ClassRecord) (place : ℕ) : Type 0 where
  pub class : ClassRecord
  pub there : slice_get classes place ≡ Some class
  pub broken : Meets kind (take place classes) class → ⊥

-- ---- The order of the kinds

-- the kinds are taken in this order
abbrev pub rank : ClassKind → ℕ
rank DuplicateClass = 1
rank NoMain = 2
rank ClassInit = 3
rank InstanceField = 4
rank FieldType = 5
rank Constructor = 6
rank ThreadClass = 7
rank NameForm = 8

-- the classes have no fault of this kind
abbrev pub IsFreeOf : ClassKind → List ClassRecord → Type 0
IsFreeOf NoMain classes = HasOneMain classes
IsFreeOf kind classes = AllMeet kind classes

-- no kind has a fault
abbrev pub IsOfProfile : List ClassRecord → Type 0
IsOfProfile classes = (kind : ClassKind) → IsFreeOf kind classes

-- the first class with the fault of a kind
pub record IsFirstClass (kind : ClassKind) (classes : List ClassRecord) (class : Option ℕ) : Type 0 where
  pub place : ℕ
  pub class_is : class ≡ Some place
  pub first : IsLeast (HasFault kind classes) place

-- there isn't exactly one main, which is the fault of no class
pub record IsWithoutMain (classes : List ClassRecord) (class : Option ℕ) : Type 0 where
  pub no_class : class ≡ None
  pub no_main : HasOneMain classes → ⊥

-- the classes have a fault of this kind, and this is the class that is named
abbrev pub IsFaultOf : ClassKind → List ClassRecord → Option ℕ → Type 0
IsFaultOf NoMain classes class = IsWithoutMain classes class
IsFaultOf kind classes class = IsFirstClass kind classes class

-- the first kind with a fault, and the first class with it
pub record IsFirstFault (classes : List ClassRecord) (kind : ClassKind) (class : Option ℕ) : Type 0 where
  pub none_before : (other : ClassKind) → rank other < rank kind → IsFreeOf other classes
  pub fault : IsFaultOf kind classes class

-- which refusal classes meet; want of memory has no cause
abbrev pub IsRefusedFor : List ClassRecord → ProfileRefusal → Type 0
IsRefusedFor classes (Refused kind class) = IsFirstFault classes kind class × (IsOfProfile classes → ⊥)
IsRefusedFor classes Memory = ⊤
