-- The variables: the static fields that reached instructions name (docs/MODEL.md, "The program of the classes").
use Rattle.std.specs.Prelude.{◌+◌, ◌++◌, ◌&&◌, ℕ, zero, suc, Bool, false, List, [], ◌∷◌, length, nat_eq, take, if◌then◌else◌}
use Rattle.std.specs.List.{list_any}
use Rattle.class_format.specs.declared.record.ClassRecord.{ClassRecord}
use Rattle.class_format.specs.declared.record.Member.{Member}
use Rattle.class_names.specs.Members.{volatile_flag, member_name}
use Rattle.class_names.specs.Names.{has_flag, name_of}
use Rattle.program.specs.declared.program.Variable.{Variable}
use Rattle.reached_methods.specs.declared.method.ReachedMethod.{ReachedMethod}
use Rattle.resolution.specs.declared.target.Target.{Target}
use Rattle.resolution.specs.declared.target.Target.TheVariants as target

-- ---- Which fields are variables

-- what is named is the field at this place of the class at this place
abbrev pub is_field : ℕ → ℕ → Target → Bool
is_field class_at field_at (target.Field class field) = nat_eq class class_at && nat_eq field field_at
is_field class_at field_at t = false

-- one of the instructions names the field
abbrev pub is_named : List Target → ℕ → ℕ → Bool
is_named targets class_at field_at = list_any (is_field class_at field_at) targets

-- an instruction of a reached method names the field
abbrev pub is_variable : List ReachedMethod → ℕ → ℕ → Bool
is_variable methods class_at field_at = list_any (λ m. is_named m.targets class_at field_at) methods

-- ---- The variables

abbrev pub variable_of : ClassRecord → Member → Variable
variable_of class f = record { class = name_of class; name = member_name class.pool f; volatile = has_flag f.flags volatile_flag }

-- those of a class's fields from a place on that are variables
abbrev pub variables_in : List ReachedMethod → ℕ → ClassRecord → ℕ → List Member → List Variable
variables_in methods class_at class field_at [] = []
variables_in methods class_at class field_at (f ∷ fields) =
    if is_variable methods class_at field_at then variable_of class f ∷ variables_in methods class_at class (field_at + 1) fields
    else variables_in methods class_at class (field_at + 1) fields

-- those of the classes from a place on
abbrev pub variables_from : List ReachedMethod → ℕ → List ClassRecord → List Variable
variables_from methods class_at [] = []
variables_from methods class_at (class ∷ classes) =
    variables_in methods class_at class 0 class.fields ++ variables_from methods (class_at + 1) classes

-- all of them, by class and by place in the class
abbrev pub variables_of : List ClassRecord → List ReachedMethod → List Variable
variables_of classes methods = variables_from methods 0 classes

-- ---- Their numbers

-- how many of so many fields of a class are variables
abbrev pub count_in : List ReachedMethod → ℕ → ℕ → ℕ
count_in methods class_at zero = 0
count_in methods class_at (suc field_at) = count_in methods class_at field_at + (if is_variable methods class_at field_at then 1 else 0)

-- the number of a field: how many variables stand before it, in the classes before and in its own
abbrev pub number_of : List ClassRecord → List ReachedMethod → ℕ → ℕ → ℕ
number_of classes methods class_at field_at = length (variables_from methods 0 (take class_at classes)) + count_in methods class_at field_at
