-- Which method has the first fault, and which refusal says so.
use Rattle.std.specs.Prelude.{◌≡◌, ◌≢◌, ◌<◌, ℕ, List, Option, Some, None, length, slice_get, ⊤}
use Rattle.class_format.specs.declared.record.ClassRecord.{ClassRecord}
use Rattle.program.specs.declared.method.MethodId.{MethodId}
use Rattle.reached_methods.specs.CodeFaults.{IsFirstCodeFault}
use Rattle.reached_methods.specs.Cycles.{HasReturn}
use Rattle.reached_methods.specs.FirstFault.{IsFirstOrNone, HasNone, earlier_of}
use Rattle.reached_methods.specs.declared.fault.Fault.{Fault}
use Rattle.reached_methods.specs.declared.method.ReachedMethod.{ReachedMethod}
use Rattle.reached_methods.specs.declared.refusal.CodeRefusal.{CodeRefusal}
use Rattle.reached_methods.specs.declared.refusal.CodeRefusal.TheVariants.{Refused, Memory}
use Rattle.reached_methods.specs.declared.survey.Surveyed.{Surveyed}

-- each listed instruction has what it names
pub record HasAllTargets (s : Surveyed) : Type 0 where
  pub same_length : length s.method.targets ≡ length s.method.listing

-- the method was surveyed at this place
pub record IsSurveyedAt (surveys : List Surveyed) (at : ℕ) (m : ReachedMethod) : Type 0 where
  pub surveyed : Surveyed
  pub there : slice_get surveys at ≡ Some surveyed
  pub method_is : surveyed.method ≡ m

-- the method has no fault of its own, and no call of it leads back
pub record IsClean (surveys : List Surveyed) (s : Surveyed) : Type 0 where
  pub own : s.fault ≡ None
  pub calls : HasNone (HasReturn surveys s.method)

-- the first method with a fault, and its first call that leads back
pub record IsFirstFaulty (surveys : List Surveyed) (at : ℕ) (recursion : Option Fault) : Type 0 where
  pub surveyed : Surveyed
  pub there : slice_get surveys at ≡ Some surveyed
  pub before : (k : ℕ) (s : Surveyed) → k < at → slice_get surveys k ≡ Some s → IsClean surveys s
  pub calls : IsFirstOrNone (HasReturn surveys surveyed.method) recursion
  pub some : earlier_of surveyed.fault recursion ≢ None

-- the refusal names the first fault of all reached methods; want of memory has no cause
abbrev pub IsRefusedFor : List ClassRecord → MethodId → CodeRefusal → Type 0
IsRefusedFor classes main (Refused kind id pc detail) = IsFirstCodeFault classes main id pc kind detail
IsRefusedFor classes main Memory = ⊤
