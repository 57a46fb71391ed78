-- The program that classes make (docs/PROFILE.md, "Linking").
use Rattle.std.specs.Prelude.{◌≡◌, ℕ, List, Some, length, slice_get}
use Rattle.class_format.specs.declared.record.ClassRecord.{ClassRecord}
use Rattle.class_profile.specs.Members.{IsOneMain}
use Rattle.class_profile.specs.Profile.{IsOfProfile}
use Rattle.program.specs.Program.{Prog}
use Rattle.program.specs.declared.method.Method.{Method}
use Rattle.program.specs.declared.method.MethodId.{MethodId}
use Rattle.reached_methods.specs.CodeFaults.{IsFaultless}
use Rattle.reached_methods.specs.Reached.{AreReachedMethods}
use Rattle.reached_methods.specs.declared.method.ReachedMethod.{ReachedMethod}
use Rattle.typing.specs.Typing.{IsTyping}
use Rattle.typing.specs.declared.untyped.UntypedMethod.{UntypedMethod}
use Rattle.untyped_program.specs.Limits.{IsWithinLimits}
use Rattle.untyped_program.specs.Untyped.{IsUntypedProgram}
use Rattle.untyped_program.specs.declared.untyped.UntypedProgram.{UntypedProgram}
use Rattle.linking.specs.Operands.{operands_of}

-- classes of the profile and their one main
pub record HasMainOf (classes : List ClassRecord) (main : MethodId) : Type 0 where
  pub profile : IsOfProfile classes
  pub is_main : IsOneMain classes main.class main.method

-- the program of the classes before it is typed: the classes are of the profile, and nothing is wrong with a reached
-- instruction
pub record IsUntypedOf (classes : List ClassRecord) (untyped : UntypedProgram) : Type 0 where
  pub main : MethodId
  pub has_main : HasMainOf classes main
  pub methods : List ReachedMethod
  pub reached : AreReachedMethods classes main methods
  pub faultless : IsFaultless classes main
  pub program : IsUntypedProgram classes main methods untyped

-- the method with the types on its paths, and with what its instructions name
pub record IsTypedMethod (u : UntypedMethod) (m : Method) : Type 0 where
  pub id : m.id ≡ u.id
  pub frame : m.frame ≡ u.frame
  pub listing : m.listing ≡ u.listing
  pub typing : IsTyping u m.typed
  pub operands : m.operands ≡ operands_of u.listing u.symbols m.typed

-- each method is that of the other list, typed
pub record AreTypedMethods (untyped : List UntypedMethod) (methods : List Method) : Type 0 where
  pub same_length : length methods ≡ length untyped
  pub each : (place : ℕ) (u : UntypedMethod) (m : Method) → slice_get untyped place ≡ Some u → slice_get methods place ≡ Some m → IsTypedMethod u m

-- the program of the classes: nothing refuses them
pub record IsProgramOf (classes : List ClassRecord) (p : Prog) : Type 0 where
  pub untyped : UntypedProgram
  pub is_untyped : IsUntypedOf classes untyped
  pub typed : AreTypedMethods untyped.methods p.methods
  pub limits : IsWithinLimits untyped
  pub variables : p.variables ≡ untyped.variables
  pub monitors : p.monitors ≡ untyped.monitors
  pub threads : p.threads ≡ untyped.threads
