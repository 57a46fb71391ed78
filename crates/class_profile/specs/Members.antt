-- What is asked of the fields and methods of a class, and which method is main (docs/PROFILE.md, "Classes of the profile").
use Rattle.std.specs.Prelude.{◌≡◌, ◌≢◌, ℕ, true, false, List, All, Some, codes, slice_get}
use Rattle.class_format.specs.declared.record.Attribute.{Attribute, out-Attribute}
use Rattle.class_format.specs.declared.record.Attribute.TheOpen.{Attribute-F, Code, Other}
use Rattle.class_format.specs.declared.record.ClassRecord.{ClassRecord}
use Rattle.class_format.specs.declared.record.CodeBody.{CodeBody}
use Rattle.class_format.specs.declared.record.Member.{Member}
use Rattle.class_format.specs.declared.record.PoolEntry.{PoolEntry}
use Rattle.class_names.specs.Members.{static_flag, final_flag, synchronized_flag, member_name, is_int, HasCode, IsSpelled}
use Rattle.class_names.specs.Names.{has_flag, text_of}

-- ---- Fields

-- the index of an attribute's name
abbrev pub name_index_in : Attribute-F Attribute CodeBody → ℕ
name_index_in (Code body) = body.name
name_index_in (Other name bytes) = name

abbrev pub attribute_name : List PoolEntry → Attribute → List ℕ
attribute_name pool a = text_of pool (name_index_in (out-Attribute a))

-- an int or a boolean that begins as 0: no attribute gives it another value (JVMS 4.7.2)
pub record IsPlainVariable (pool : List PoolEntry) (f : Member) : Type 0 where
  pub int : is_int pool f ≡ true
  pub no_value : All (λ a. attribute_name pool a ≢ codes "ConstantValue") f.attributes

-- a static field that isn't final is such a variable
abbrev pub HasPlainType : List PoolEntry → Member → Type 0
HasPlainType pool f = has_flag f.flags static_flag ≡ true → has_flag f.flags final_flag ≡ false → IsPlainVariable pool f

-- no method is a class's initializer (JVMS 3.9)
abbrev pub HasNoClassInit : ClassRecord → Type 0
HasNoClassInit class = All (λ m. member_name class.pool m ≢ codes "<clinit>") class.methods

-- each field is static
abbrev pub HasStaticFields : ClassRecord → Type 0
HasStaticFields class = All (λ f. has_flag f.flags static_flag ≡ true) class.fields

-- each field has a type of the profile
abbrev pub HasPlainTypes : ClassRecord → Type 0
HasPlainTypes class = All (HasPlainType class.pool) class.fields

-- ---- Main

-- main([Ljava/lang/String;)V, static, not synchronized, with code
pub record IsMain (pool : List PoolEntry) (m : Member) : Type 0 where
  pub spelled : IsSpelled pool (codes "main") (codes "([Ljava/lang/String;)V") m
  pub static : has_flag m.flags static_flag ≡ true
  pub unsynchronized : has_flag m.flags synchronized_flag ≡ false
  pub code : HasCode m

-- the method at this place of the class at this place is main
pub record IsMainAt (classes : List ClassRecord) (class_place method_place : ℕ) : Type 0 where
  pub class : ClassRecord
  pub class_there : slice_get classes class_place ≡ Some class
  pub method : Member
  pub method_there : slice_get class.methods method_place ≡ Some method
  pub main : IsMain class.pool method

-- the one main of all classes
pub record IsOneMain (classes : List ClassRecord) (class_place method_place : ℕ) : Type 0 where
  pub main : IsMainAt classes class_place method_place
  pub only : (c m : ℕ) → IsMainAt classes c m → (c ≡ class_place) × (m ≡ method_place)

-- exactly one method of all classes is main
pub record HasOneMain (classes : List ClassRecord) : Type 0 where
  pub class_place : ℕ
  pub method_place : ℕ
  pub one : IsOneMain classes class_place method_place
