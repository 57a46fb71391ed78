-- What is known of reached methods whose instructions' names are known.
use Rattle.std.specs.Prelude.{◌≡◌, ℕ, List, All, Some, IsSome, slice_get, ⊤}
use Rattle.class_format.specs.declared.record.ClassRecord.{ClassRecord}
use Rattle.class_format.specs.declared.record.CodeBody.{CodeBody}
use Rattle.class_format.specs.declared.record.Member.{Member}
use Rattle.class_format.specs.declared.record.PoolEntry.{PoolEntry}
use Rattle.class_names.specs.Names.{class_name_of}
use Rattle.class_names.specs.Members.{member_descriptor, body_of}
use Rattle.program.specs.declared.method.MethodId.{MethodId}
use Rattle.program.specs.Program.{IsSpeltVariable}
use Rattle.reached_methods.specs.Reached.{IsMethodAt, is_method, run_of}
use Rattle.reached_methods.specs.declared.method.ReachedMethod.{ReachedMethod}
use Rattle.resolution.specs.declared.target.Target.{Target}
use Rattle.resolution.specs.declared.target.Target.TheVariants as target
use Rattle.untyped_program.specs.Methods.{entry_of, signature_by, signature_at}
use Rattle.untyped_program.specs.Monitors.{monitor_number}
use Rattle.untyped_program.specs.Variables.{variable_of}

-- the field at this place of the class at this place, whose names can be written
pub record IsKnownField (classes : List ClassRecord) (class_at field_at : ℕ) : Type 0 where
  pub class : ClassRecord
  pub class_there : slice_get classes class_at ≡ Some class
  pub field : Member
  pub field_there : slice_get class.fields field_at ≡ Some field
  pub spelt : IsSpeltVariable (variable_of class field)

-- a field of the classes, a thread class with a run()V, a method with a signature
abbrev pub IsKnown : List ClassRecord → Target → Type 0
IsKnown classes (target.Field class_at field_at) = IsKnownField classes class_at field_at
IsKnown classes (target.New class_at) = IsSome (run_of classes class_at)
IsKnown classes (target.Call id) = IsSome (signature_at classes id)
IsKnown classes t = ⊤

-- a method with code and a signature, whose instructions name what is known
pub record IsKnownMethod (classes : List ClassRecord) (main : MethodId) (m : ReachedMethod) : Type 0 where
  pub class : ClassRecord
  pub method : Member
  pub there : IsMethodAt classes m.id class method
  pub body : CodeBody
  pub code : body_of method ≡ Some body
  pub declared : IsSome (signature_by (entry_of (is_method m.id main) method) (member_descriptor class.pool method))
  pub targets : All (IsKnown classes) m.targets

abbrev pub AreKnown : List ClassRecord → MethodId → List ReachedMethod → Type 0
AreKnown classes main methods = All (IsKnownMethod classes main) methods

-- the name of the class has a number, the method a signature
abbrev pub HasSymbol : List ClassRecord → List (List ℕ) → List PoolEntry → Target → Type 0
HasSymbol classes monitors pool (target.Class index) = IsSome (monitor_number monitors (class_name_of pool index))
HasSymbol classes monitors pool (target.Call id) = IsSome (signature_at classes id)
HasSymbol classes monitors pool t = ⊤

-- each name that a method names has a number
abbrev pub AreNumbered : List (List ℕ) → List (List ℕ) → Type 0
AreNumbered monitors names = All (λ name. IsSome (monitor_number monitors name)) names
