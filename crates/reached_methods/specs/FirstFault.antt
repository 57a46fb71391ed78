-- The first of the faults of one method.
use Rattle.std.specs.Prelude.{◌≡◌, ◌<◌, ◌&&◌, ◌||◌, ◌⊎◌, ℕ, Bool, Option, Some, None, nat_eq, nat_lt, if◌then◌else◌}
use Rattle.reached_methods.specs.CodeFaults.{rank}
use Rattle.reached_methods.specs.declared.fault.Fault.{Fault}
use Rattle.reached_methods.specs.declared.refusal.CodeKind.{CodeKind}
use Rattle.reached_methods.specs.declared.refusal.Detail.{Detail}

-- an earlier place, or an earlier kind at one place
abbrev pub IsEarlier : ℕ → CodeKind → ℕ → CodeKind → Type 0
IsEarlier pc kind other_pc other_kind = (pc < other_pc) ⊎ ((pc ≡ other_pc) × (rank kind < rank other_kind))

-- among the faults of a method that are of this sort, the first
pub record IsFirstOf (Has : ℕ → CodeKind → Detail → Type 0) (fault : Fault) : Type 0 where
  pub holds : Has fault.pc fault.kind fault.detail
  pub first : (pc : ℕ) (kind : CodeKind) (detail : Detail) → Has pc kind detail → IsEarlier pc kind fault.pc fault.kind → ⊥

-- the method has none of this sort
pub record HasNone (Has : ℕ → CodeKind → Detail → Type 0) : Type 0 where
  pub none : (pc : ℕ) (kind : CodeKind) (detail : Detail) → Has pc kind detail → ⊥

-- the first fault of this sort, if there is one
abbrev pub IsFirstOrNone : (ℕ → CodeKind → Detail → Type 0) → Option Fault → Type 0
IsFirstOrNone Has (Some fault) = IsFirstOf Has fault
IsFirstOrNone Has None = HasNone Has

-- whether a fault stands at an earlier place than another, or is of an earlier kind at one place
abbrev pub comes_first : Fault → Fault → Bool
comes_first fault other = nat_lt fault.pc other.pc || (nat_eq fault.pc other.pc && nat_lt (rank fault.kind) (rank other.kind))

-- the earlier of two faults
abbrev pub earlier_of : Option Fault → Option Fault → Option Fault
earlier_of None second = second
earlier_of (Some first) None = Some first
earlier_of (Some first) (Some second) = if comes_first second first then Some second else Some first
