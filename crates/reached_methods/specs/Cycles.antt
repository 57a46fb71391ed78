-- Calls among surveyed methods, and those that lead back.
use Rattle.std.specs.Prelude.{◌≡◌, ◌+◌, ◌⊎◌, ℕ, Bool, true, false, not, List, All, Contains, Some, count_by, length, slice_get, slice_index_or, slice_set, ◌++◌, [], ◌∷◌}
use Rattle.relations.specs.Path.{Walk}
use Rattle.opcodes.specs.declared.listed.Listed.{Listed}
use Rattle.program.specs.declared.method.MethodId.{MethodId}
use Rattle.resolution.specs.declared.target.Target.{Target}
use Rattle.resolution.specs.declared.target.Target.TheVariants as target
use Rattle.reached_methods.specs.Exploring.{ids_of}
use Rattle.reached_methods.specs.declared.method.ReachedMethod.{ReachedMethod}
use Rattle.reached_methods.specs.declared.refusal.CodeKind.{CodeKind}
use Rattle.reached_methods.specs.declared.refusal.CodeKind.TheVariants.{Recursion}
use Rattle.reached_methods.specs.declared.refusal.Detail.{Detail}
use Rattle.reached_methods.specs.declared.refusal.Detail.TheVariants.{Nothing}
use Rattle.reached_methods.specs.declared.survey.Surveyed.{Surveyed}

-- ---- Calls

-- an instruction of a surveyed method calls the other
pub record CallsIn (surveys : List Surveyed) (caller called : MethodId) : Type 0 where
  pub surveyed : Surveyed
  pub there : Contains surveys surveyed
  pub caller_is : surveyed.method.id ≡ caller
  pub call : Contains surveyed.method.targets (target.Call called)

-- each method that is called is surveyed
pub record AreClosed (surveys : List Surveyed) : Type 0 where
  pub closed : (caller called : MethodId) → CallsIn surveys caller called → Contains (ids_of surveys) called

-- an instruction of the method calls one that leads back to it
pub record HasReturn (surveys : List Surveyed) (m : ReachedMethod) (pc : ℕ) (kind : CodeKind) (detail : Detail) : Type 0 where
  pub at : ℕ
  pub item : Listed
  pub listed : slice_get m.listing at ≡ Some item
  pub place : item.pc ≡ pc
  pub called : MethodId
  pub named : slice_get m.targets at ≡ Some (target.Call called)
  pub leads_back : Walk (CallsIn surveys) called m.id
  pub kind_is : kind ≡ Recursion
  pub detail_is : detail ≡ Nothing

-- ---- The search for one method

-- the method at this place of the list
abbrev pub StandsIn : List Surveyed → ℕ → MethodId → Type 0
StandsIn surveys at id = slice_get (ids_of surveys) at ≡ Some id

-- the method is marked
pub record IsMarked (surveys : List Surveyed) (marked : List Bool) (id : MethodId) : Type 0 where
  pub at : ℕ
  pub there : StandsIn surveys at id
  pub mark : slice_index_or marked at false ≡ true

-- the method waits
pub record IsWaiting (surveys : List Surveyed) (waiting : List ℕ) (id : MethodId) : Type 0 where
  pub at : ℕ
  pub there : StandsIn surveys at id
  pub waits : Contains waiting at

-- the method at this place is called from the start
pub record IsCalledFrom (surveys : List Surveyed) (start : MethodId) (at : ℕ) : Type 0 where
  pub id : MethodId
  pub there : StandsIn surveys at id
  pub walk : Walk (CallsIn surveys) start id

-- the marked methods are not the one that is sought, and those but that wait call only marked ones
pub record IsSearch (surveys : List Surveyed) (sought start : MethodId) (marked : List Bool) (waiting : List ℕ) : Type 0 where
  pub same_length : length marked ≡ length surveys
  pub unmarked : IsMarked surveys marked sought → ⊥
  pub from_start : All (IsCalledFrom surveys start) waiting
  pub closed : (caller called : MethodId) → IsMarked surveys marked caller → CallsIn surveys caller called →
      IsMarked surveys marked called ⊎ IsWaiting surveys waiting caller

-- no method waits, and no marked one leads to the one that is sought
pub record IsIdle (surveys : List Surveyed) (sought : MethodId) (marked : List Bool) (waiting : List ℕ) : Type 0 where
  pub none_waits : waiting ≡ []
  pub same_length : length marked ≡ length surveys
  pub unmarked : IsMarked surveys marked sought → ⊥
  pub closed : (caller called : MethodId) → IsMarked surveys marked caller → CallsIn surveys caller called → IsMarked surveys marked called

-- the instruction calls a method from which calls lead to the sought one
pub record CallsBack (surveys : List Surveyed) (sought : MethodId) (t : Target) : Type 0 where
  pub called : MethodId
  pub is_call : t ≡ target.Call called
  pub walk : Walk (CallsIn surveys) called sought

-- what was marked stays so
pub record KeepsMarks (surveys : List Surveyed) (old new : List Bool) : Type 0 where
  pub kept : (id : MethodId) → IsMarked surveys old id → IsMarked surveys new id

-- the methods that are not marked, and those that wait
abbrev pub work_of : List Bool → List ℕ → ℕ
work_of marked waiting = count_by not marked + length waiting

-- one method is marked: it was marked before, or it waits now
pub data Marks (surveys : List Surveyed) (id : MethodId) (marked : List Bool) (waiting : List ℕ) (marked' : List Bool) (waiting' : List ℕ) : Type 0 where
  before : IsMarked surveys marked id → marked' ≡ marked → waiting' ≡ waiting → Marks surveys id marked waiting marked' waiting'
  now : (to : ℕ) → StandsIn surveys to id → slice_index_or marked to false ≡ false → marked' ≡ slice_set marked to true → waiting' ≡ waiting ++ to ∷ [] →
      Marks surveys id marked waiting marked' waiting'
