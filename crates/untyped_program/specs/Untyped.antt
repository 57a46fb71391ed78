-- The program of the classes before it is typed (docs/MODEL.md, "The program of the classes").
use Rattle.std.specs.Prelude.{◌≡◌, ℕ, List, Some, length, map, slice_get}
use Rattle.class_format.specs.declared.record.ClassRecord.{ClassRecord}
use Rattle.program.specs.declared.method.MethodId.{MethodId}
use Rattle.reached_methods.specs.declared.method.ReachedMethod.{ReachedMethod}
use Rattle.typing.specs.declared.untyped.UntypedMethod.{UntypedMethod}
use Rattle.untyped_program.specs.Methods.{IsUntypedMethod}
use Rattle.untyped_program.specs.Monitors.{monitors_of}
use Rattle.untyped_program.specs.Threads.{threads_of}
use Rattle.untyped_program.specs.Variables.{variables_of, number_of}
use Rattle.untyped_program.specs.declared.untyped.UntypedProgram.{UntypedProgram}

-- each method of the one list is that of the other before it is typed
pub record AreUntyped (classes : List ClassRecord) (main : MethodId) (number : ℕ → ℕ → ℕ) (monitors : List (List ℕ)) (methods : List ReachedMethod) (untyped : List UntypedMethod) : Type 0 where
  pub same_length : length untyped ≡ length methods
  pub each : (place : ℕ) (m : ReachedMethod) (u : UntypedMethod) → slice_get methods place ≡ Some m → slice_get untyped place ≡ Some u →
      IsUntypedMethod classes main number monitors m u

-- the program of the classes whose reached methods these are
pub record IsUntypedProgram (classes : List ClassRecord) (main : MethodId) (methods : List ReachedMethod) (p : UntypedProgram) : Type 0 where
  pub variables : p.variables ≡ variables_of classes methods
  pub monitors : p.monitors ≡ monitors_of classes methods
  pub threads : map Some p.threads ≡ threads_of classes main methods
  pub untyped : AreUntyped classes main (number_of classes methods) (monitors_of classes methods) methods p.methods
