-- What follows from the definitions, and is stated by the functions of the module `laws`.
use Rattle.std.specs.Prelude.{◌≡◌, ℕ, true, List, Contains, Some, slice_get}
use Rattle.std.specs.List.{flat_map}
use Rattle.class_format.specs.declared.record.ClassRecord.{ClassRecord}
use Rattle.class_format.specs.declared.record.Member.{Member}
use Rattle.program.specs.declared.method.MethodId.{MethodId}
use Rattle.reached_methods.specs.declared.method.ReachedMethod.{ReachedMethod}
use Rattle.untyped_program.specs.Monitors.{names_by, monitors_of, monitor_number}
use Rattle.untyped_program.specs.Untyped.{IsUntypedProgram}
use Rattle.untyped_program.specs.Variables.{is_variable, variable_of, variables_of, number_of}
use Rattle.untyped_program.specs.declared.untyped.UntypedProgram.{UntypedProgram}

-- the variable at the number of a field is that field's
abbrev pub FieldNumbersArePlaces : Type 0
FieldNumbersArePlaces = (classes : List ClassRecord) (methods : List ReachedMethod) (class_at field_at : ℕ) (class : ClassRecord) (f : Member) →
    slice_get classes class_at ≡ Some class → slice_get class.fields field_at ≡ Some f → is_variable methods class_at field_at ≡ true →
    slice_get (variables_of classes methods) (number_of classes methods class_at field_at) ≡ Some (variable_of class f)

-- the number of a name that the methods name, and the monitor there, which has this name
pub record HasNumber (monitors : List (List ℕ)) (name : List ℕ) : Type 0 where
  pub number : ℕ
  pub number_is : monitor_number monitors name ≡ Some number
  pub there : slice_get monitors number ≡ Some name

-- each name that the methods name has its number
abbrev pub MonitorNumbersArePlaces : Type 0
MonitorNumbersArePlaces = (classes : List ClassRecord) (methods : List ReachedMethod) (name : List ℕ) →
    Contains (flat_map (names_by classes) methods) name → HasNumber (monitors_of classes methods) name

-- reached methods make at most one program
abbrev pub OneUntypedProgram : Type 0
OneUntypedProgram = (classes : List ClassRecord) (main : MethodId) (methods : List ReachedMethod) (first second : UntypedProgram) →
    IsUntypedProgram classes main methods first → IsUntypedProgram classes main methods second → first ≡ second
