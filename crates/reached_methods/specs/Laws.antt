-- What holds of the faults and of the lists of reached methods.
use Rattle.std.specs.Prelude.{◌≡◌, ℕ, List}
use Rattle.class_format.specs.declared.record.ClassRecord.{ClassRecord}
use Rattle.program.specs.declared.method.MethodId.{MethodId}
use Rattle.reached_methods.specs.CodeFaults.{IsFirstCodeFault, IsFaultless}
use Rattle.reached_methods.specs.Reached.{AreReachedMethods}
use Rattle.reached_methods.specs.declared.method.ReachedMethod.{ReachedMethod}
use Rattle.reached_methods.specs.declared.refusal.CodeKind.{CodeKind}
use Rattle.reached_methods.specs.declared.refusal.Detail.{Detail}

-- two faults are the same
pub record IsSameFault (id : MethodId) (pc : ℕ) (kind : CodeKind) (detail : Detail) (other : MethodId) (other_pc : ℕ) (other_kind : CodeKind) (other_detail : Detail) : Type 0 where
  pub method : id ≡ other
  pub place : pc ≡ other_pc
  pub kind_is : kind ≡ other_kind
  pub detail_is : detail ≡ other_detail

-- a program has at most one first fault
abbrev pub OneFirstFault : Type 0
OneFirstFault = (classes : List ClassRecord) (main id other : MethodId) (pc other_pc : ℕ) (kind other_kind : CodeKind) (detail other_detail : Detail) →
    IsFirstCodeFault classes main id pc kind detail → IsFirstCodeFault classes main other other_pc other_kind other_detail →
    IsSameFault id pc kind detail other other_pc other_kind other_detail

-- where nothing is wrong with the reached instructions, there is no first fault
abbrev pub NoFirstFault : Type 0
NoFirstFault = (classes : List ClassRecord) (main id : MethodId) (pc : ℕ) (kind : CodeKind) (detail : Detail) →
    IsFirstCodeFault classes main id pc kind detail → IsFaultless classes main → ⊥

-- a program has at most one list of its reached methods
abbrev pub OneList : Type 0
OneList = (classes : List ClassRecord) (main : MethodId) (first second : List ReachedMethod) →
    AreReachedMethods classes main first → AreReachedMethods classes main second → first ≡ second
