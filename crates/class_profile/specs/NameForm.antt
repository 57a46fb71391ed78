-- What is asked of the names of a class and its members (docs/PROFILE.md, "Classes of the profile").
use Rattle.std.specs.Prelude.{◌≡◌, ◌≢◌, true, false, List, All, AllPairs, codes, filter, nat_eq}
use Rattle.std.specs.List.{starts_with}
use Rattle.class_format.specs.declared.record.ClassRecord.{ClassRecord}
use Rattle.class_format.specs.declared.record.Member.{Member}
use Rattle.class_names.specs.Names.{name_of}
use Rattle.class_names.specs.Members.{member_name, member_descriptor, is_int_field, IsSpelled}
use Rattle.program.specs.Names.{IsName}

-- the static fields of type int or boolean have names that can be written
abbrev pub HasWritableFields : ClassRecord → Type 0
HasWritableFields class = All (λ f. is_int_field class.pool f ≡ true → IsName (member_name class.pool f)) class.fields

-- the static fields of type int or boolean
abbrev pub int_fields : ClassRecord → List Member
int_fields class = filter (is_int_field class.pool) class.fields

-- no two of these fields have one name
abbrev pub HasDistinctFields : ClassRecord → Type 0
HasDistinctFields class = AllPairs (λ f g. member_name class.pool f ≢ member_name class.pool g) (int_fields class)

-- no two methods have one name and descriptor
abbrev pub HasDistinctMethods : ClassRecord → Type 0
HasDistinctMethods class = AllPairs (λ m n. IsSpelled class.pool (member_name class.pool m) (member_descriptor class.pool m) n → ⊥) class.methods

pub record HasPlainNames (class : ClassRecord) : Type 0 where
  pub class_name : IsName (name_of class)
  pub not_of_the_library : starts_with nat_eq (name_of class) (codes "java/") ≡ false
  pub field_names : HasWritableFields class
  pub fields : HasDistinctFields class
  pub methods : HasDistinctMethods class
