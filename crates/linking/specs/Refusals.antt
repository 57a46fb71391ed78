-- Why classes make no program: the first of four phases that finds something, and the first that it finds (docs/PROFILE.md,
-- "Linking").
use Rattle.std.specs.Prelude.{◌≡◌, ◌<◌, ℕ, List, Some, slice_get, ⊤}
use Rattle.class_format.specs.declared.record.ClassRecord.{ClassRecord}
use Rattle.class_profile.specs.Profile.{IsFirstFault}
use Rattle.program.specs.declared.method.MethodId.{MethodId}
use Rattle.reached_methods.specs.CodeFaults.{IsFirstCodeFault}
use Rattle.reached_methods.specs.declared.refusal.CodeKind.{CodeKind}
use Rattle.reached_methods.specs.declared.refusal.Detail.{Detail}
use Rattle.typing.specs.Paths.{IsFaulty, IsRefusal}
use Rattle.typing.specs.declared.refusal.TypeKind.{TypeKind}
use Rattle.typing.specs.declared.untyped.UntypedMethod.{UntypedMethod}
use Rattle.untyped_program.specs.Limits.{IsFirstPassed}
use Rattle.untyped_program.specs.declared.untyped.UntypedProgram.{UntypedProgram}
use Rattle.untyped_program.specs.declared.refusal.LimitKind.{LimitKind}
use Rattle.linking.specs.Linking.{HasMainOf, IsUntypedOf}
use Rattle.linking.specs.declared.refusal.ProgramRefusal.{ProgramRefusal}
use Rattle.linking.specs.declared.refusal.ProgramRefusal.TheVariants.{Class, Code, Typing, Limit, Memory}

-- the second phase: the first reached instruction that is wrong
pub record IsCodeRefusal (classes : List ClassRecord) (kind : CodeKind) (id : MethodId) (pc : ℕ) (detail : Detail) : Type 0 where
  pub main : MethodId
  pub has_main : HasMainOf classes main
  pub fault : IsFirstCodeFault classes main id pc kind detail

-- no path of the method fails, and no two disagree
abbrev pub IsSound : UntypedMethod → Type 0
IsSound u = (most : ℕ) → IsFaulty u most → ⊥

-- the third phase: the first reached method that can't be typed
pub record IsTypingRefusal (classes : List ClassRecord) (kind : TypeKind) (id : MethodId) (pc : ℕ) : Type 0 where
  pub untyped : UntypedProgram
  pub is_untyped : IsUntypedOf classes untyped
  pub place : ℕ
  pub method : UntypedMethod
  pub there : slice_get untyped.methods place ≡ Some method
  pub named : id ≡ method.id
  pub refusal : IsRefusal method kind pc
  pub before : (earlier : ℕ) (u : UntypedMethod) → earlier < place → slice_get untyped.methods earlier ≡ Some u → IsSound u

-- the fourth phase: the first limit that is passed
pub record IsLimitRefusal (classes : List ClassRecord) (kind : LimitKind) : Type 0 where
  pub untyped : UntypedProgram
  pub is_untyped : IsUntypedOf classes untyped
  pub sound : (place : ℕ) (u : UntypedMethod) → slice_get untyped.methods place ≡ Some u → IsSound u
  pub passed : IsFirstPassed untyped kind

-- which refusal the classes meet; want of memory has no cause
abbrev pub IsRefusedFor : List ClassRecord → ProgramRefusal → Type 0
IsRefusedFor classes (Class kind class) = IsFirstFault classes kind class
IsRefusedFor classes (Code kind id pc detail) = IsCodeRefusal classes kind id pc detail
IsRefusedFor classes (Typing kind id pc) = IsTypingRefusal classes kind id pc
IsRefusedFor classes (Limit kind) = IsLimitRefusal classes kind
IsRefusedFor classes Memory = ⊤
