-- What the survey of one method finds.
use Rattle.std.specs.Prelude.{◌≡◌, ◌≢◌, ◌≤◌, ◌+ℤ◌, ◌≤ℤ◌, ℕ, ℤ, pos, Bool, true, false, List, Any, map, Option, Some, None, ⊤}
use Rattle.class_format.specs.declared.record.ClassRecord.{ClassRecord}
use Rattle.class_format.specs.declared.record.CodeBody.{CodeBody}
use Rattle.class_format.specs.declared.record.PoolEntry.{PoolEntry}
use Rattle.opcodes.specs.Faults.{IsUnknown, IsCut, MissesTarget}
use Rattle.opcodes.specs.Instructions.{jump_of}
use Rattle.opcodes.specs.Listing.{StandsAt}
use Rattle.opcodes.specs.Reached.{Reached, IsListingOf}
use Rattle.opcodes.specs.declared.instruction.Instr.{Instr}
use Rattle.opcodes.specs.declared.instruction.Instr.TheVariants.{New}
use Rattle.opcodes.specs.declared.listed.Listed.{Listed}
use Rattle.program.specs.declared.method.MethodId.{MethodId}
use Rattle.resolution.specs.Resolution.{Resolved, Names, Unknown, Forbidden, Final, resolve}
use Rattle.resolution.specs.declared.target.Target.{Target}
use Rattle.resolution.specs.declared.target.Target.TheVariants as target
use Rattle.reached_methods.specs.CodeFaults.{HasCodeFault, name_detail, rank}
use Rattle.reached_methods.specs.FirstFault.{IsFirstOrNone}
use Rattle.reached_methods.specs.Reached.{HasCodeAt, is_method}
use Rattle.reached_methods.specs.declared.fault.Fault.{Fault}
use Rattle.reached_methods.specs.declared.method.ReachedMethod.{ReachedMethod}
use Rattle.reached_methods.specs.declared.refusal.CodeKind.{CodeKind}
use Rattle.reached_methods.specs.declared.refusal.CodeKind.TheVariants.{Opcode, CutInstruction, JumpTarget, UnknownName, ForbiddenCall, FinalAccess, ThreadInLoop}
use Rattle.reached_methods.specs.declared.refusal.Detail.{Detail}
use Rattle.reached_methods.specs.declared.refusal.Detail.TheVariants.{Nothing, Number, Name}
use Rattle.reached_methods.specs.declared.survey.Surveyed.{Surveyed}

-- the classes have this method, and it has code
abbrev pub HasCode : List ClassRecord → MethodId → Type 0
HasCode classes id = (class : ClassRecord) × (body : CodeBody) × HasCodeAt classes id class body

-- ---- The instructions themselves

-- a place where the code itself is wrong
pub data HasReadFault (code : List ℕ) (pc : ℕ) (kind : CodeKind) (detail : Detail) : Type 0 where
  unknown_number : (number : ℕ) → Reached code pc → IsUnknown code pc number → kind ≡ Opcode → detail ≡ Number number → HasReadFault code pc kind detail
  cut : Reached code pc → IsCut code pc → kind ≡ CutInstruction → detail ≡ Nothing → HasReadFault code pc kind detail
  misses : Reached code pc → MissesTarget code pc → kind ≡ JumpTarget → detail ≡ Nothing → HasReadFault code pc kind detail

-- ---- What they name

-- what an instruction names; nothing, where the profile refuses it
abbrev pub target_of : Resolved → Target
target_of (Names t) = t
target_of (Unknown name) = target.Nothing
target_of (Forbidden name) = target.Nothing
target_of Final = target.Nothing

-- what is wrong with what an instruction names
abbrev pub IsNameFault : Resolved → CodeKind → Detail → Type 0
IsNameFault (Names t) kind detail = ⊥
IsNameFault (Unknown name) kind detail = (kind ≡ UnknownName) × (detail ≡ name_detail name)
IsNameFault (Forbidden name) kind detail = (kind ≡ ForbiddenCall) × (detail ≡ Name name)
IsNameFault Final kind detail = (kind ≡ FinalAccess) × (detail ≡ Nothing)

-- the fault of an instruction for what it names, if there is one
abbrev pub IsNameFaultAt : ℕ → Resolved → Option Fault → Type 0
IsNameFaultAt pc names (Some fault) = (fault.pc ≡ pc) × IsNameFault names fault.kind fault.detail
IsNameFaultAt pc names None = (t : Target) × (names ≡ Names t)

-- what an instruction names, and its fault
pub record IsNamed (pc : ℕ) (names : Resolved) (t : Target) (fault : Option Fault) : Type 0 where
  pub target_is : t ≡ target_of names
  pub fault_is : IsNameFaultAt pc names fault

-- an instruction of a list whose name is wrong among all instructions
pub record HasNameFault (classes : List ClassRecord) (main : Bool) (pool : List PoolEntry) (all listing : List Listed) (pc : ℕ) (kind : CodeKind) (detail : Detail) : Type 0 where
  pub instr : Instr
  pub there : StandsAt listing pc instr
  pub wrong : IsNameFault (resolve classes main pool all (record { pc = pc; instr = instr })) kind detail

-- ---- Loops

-- a listed instruction jumps over this place
pub record JumpsAcross (pc : ℕ) (item : Listed) : Type 0 where
  pub distance : ℤ
  pub jumps : jump_of item.instr ≡ Some distance
  pub behind : pc ≤ item.pc
  pub before : (pos item.pc +ℤ distance) ≤ℤ pos pc

-- the instruction makes an object
abbrev pub MakesObject : Instr → Type 0
MakesObject (New index) = ⊤
MakesObject _ = ⊥

-- a listed instruction makes an object in a loop
pub record IsLooped (listing : List Listed) (item : Listed) : Type 0 where
  pub makes : MakesObject item.instr
  pub loop : Any (JumpsAcross item.pc) listing

-- a place where an object is made in a loop
pub record HasLoopFault (listing : List Listed) (pc : ℕ) (kind : CodeKind) (detail : Detail) : Type 0 where
  pub instr : Instr
  pub there : StandsAt listing pc instr
  pub looped : IsLooped listing (record { pc = pc; instr = instr })
  pub kind_is : kind ≡ ThreadInLoop
  pub detail_is : detail ≡ Nothing

-- the same in main alone
abbrev pub HasLoopFaultIn : Bool → List Listed → ℕ → CodeKind → Detail → Type 0
HasLoopFaultIn true listing pc kind detail = HasLoopFault listing pc kind detail
HasLoopFaultIn false listing pc kind detail = ⊥

-- ---- The survey

-- a fault that the method has without regard to other methods
pub record HasOwnFault (classes : List ClassRecord) (main id : MethodId) (pc : ℕ) (kind : CodeKind) (detail : Detail) : Type 0 where
  pub fault : HasCodeFault classes main id pc kind detail
  pub own : rank kind ≢ 15

-- the reached instructions of a method, and what they name
pub record IsSurvey (classes : List ClassRecord) (main : MethodId) (m : ReachedMethod) : Type 0 where
  pub class : ClassRecord
  pub body : CodeBody
  pub code : HasCodeAt classes m.id class body
  pub listing : IsListingOf body.code m.listing
  pub targets : m.targets ≡ map (λ item. target_of (resolve classes (is_method m.id main) class.pool m.listing item)) m.listing

-- and the first fault of its own
pub record IsSurveyed (classes : List ClassRecord) (main : MethodId) (s : Surveyed) : Type 0 where
  pub survey : IsSurvey classes main s.method
  pub fault : IsFirstOrNone (HasOwnFault classes main s.method.id) s.fault
