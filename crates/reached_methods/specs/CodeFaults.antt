-- What can be wrong with the instructions of reached methods, and the first of it (docs/PROFILE.md, "Refusals of instructions").
use Rattle.std.specs.Prelude.{◌≡◌, ◌<◌, ◌≤◌, ◌+ℤ◌, ◌≤ℤ◌, ℕ, ℤ, pos, List, Option, Some, None}
use Rattle.relations.specs.Path.{Walk}
use Rattle.class_format.specs.declared.record.ClassRecord.{ClassRecord}
use Rattle.class_format.specs.declared.record.CodeBody.{CodeBody}
use Rattle.opcodes.specs.Faults.{IsUnknown, IsCut, MissesTarget}
use Rattle.opcodes.specs.Instructions.{jump_of}
use Rattle.opcodes.specs.Reached.{Reached}
use Rattle.opcodes.specs.declared.instruction.Instr.{Instr}
use Rattle.opcodes.specs.declared.instruction.Instr.TheVariants.{New}
use Rattle.program.specs.declared.method.MethodId.{MethodId}
use Rattle.resolution.specs.Resolution.{Resolved, Names, Unknown, Forbidden, Final}
use Rattle.resolution.specs.declared.target.Target.TheVariants as target
use Rattle.reached_methods.specs.Reached.{HasCodeAt, IsBefore, IsInstructionAt, IsReached, Calls}
use Rattle.reached_methods.specs.declared.refusal.CodeKind.{CodeKind}
use Rattle.reached_methods.specs.declared.refusal.CodeKind.TheVariants.{Opcode, CutInstruction, JumpTarget, UnknownName, ForbiddenCall, FinalAccess, Recursion, ThreadInLoop}
use Rattle.reached_methods.specs.declared.refusal.Detail.{Detail}
use Rattle.reached_methods.specs.declared.refusal.Detail.TheVariants.{Nothing, Number, Name}

-- ---- The faults

-- a reached place of the method's code
pub record IsPlaceIn (classes : List ClassRecord) (id : MethodId) (pc : ℕ) (code : List ℕ) : Type 0 where
  pub class : ClassRecord
  pub body : CodeBody
  pub has_code : HasCodeAt classes id class body
  pub code_is : body.code ≡ code
  pub reached : Reached code pc

abbrev pub name_detail : Option (List ℕ) → Detail
name_detail (Some name) = Name name
name_detail None = Nothing

-- the instruction at a place of main, a jump or none, jumps over this place: from it or from behind it, to it or before it
pub record JumpsOver (classes : List ClassRecord) (main : MethodId) (pc : ℕ) : Type 0 where
  pub from : ℕ
  pub instr : Instr
  pub names : Resolved
  pub reached : IsInstructionAt classes main main from instr names
  pub distance : ℤ
  pub jumps : jump_of instr ≡ Some distance
  pub behind : pc ≤ from
  pub before : (pos from +ℤ distance) ≤ℤ pos pc

-- what is wrong at a place of a method
pub data HasCodeFault (classes : List ClassRecord) (main id : MethodId) (pc : ℕ) (kind : CodeKind) (detail : Detail) : Type 0 where
  unknown_number : (code : List ℕ) (number : ℕ) → IsPlaceIn classes id pc code → IsUnknown code pc number →
      kind ≡ Opcode → detail ≡ Number number → HasCodeFault classes main id pc kind detail
  cut : (code : List ℕ) → IsPlaceIn classes id pc code → IsCut code pc →
      kind ≡ CutInstruction → detail ≡ Nothing → HasCodeFault classes main id pc kind detail
  misses : (code : List ℕ) → IsPlaceIn classes id pc code → MissesTarget code pc →
      kind ≡ JumpTarget → detail ≡ Nothing → HasCodeFault classes main id pc kind detail
  unknown_name : (instr : Instr) (name : Option (List ℕ)) → IsInstructionAt classes main id pc instr (Unknown name) →
      kind ≡ UnknownName → detail ≡ name_detail name → HasCodeFault classes main id pc kind detail
  forbidden : (instr : Instr) (name : List ℕ) → IsInstructionAt classes main id pc instr (Forbidden name) →
      kind ≡ ForbiddenCall → detail ≡ Name name → HasCodeFault classes main id pc kind detail
  final : (instr : Instr) → IsInstructionAt classes main id pc instr Final →
      kind ≡ FinalAccess → detail ≡ Nothing → HasCodeFault classes main id pc kind detail
  -- the call lies on a cycle of calls
  recursion : (instr : Instr) (called : MethodId) → IsInstructionAt classes main id pc instr (Names (target.Call called)) →
      Walk (Calls classes main) called id → kind ≡ Recursion → detail ≡ Nothing → HasCodeFault classes main id pc kind detail
  in_loop : (index : ℕ) (names : Resolved) → id ≡ main → IsInstructionAt classes main id pc (New index) names →
      JumpsOver classes main pc → kind ≡ ThreadInLoop → detail ≡ Nothing → HasCodeFault classes main id pc kind detail

-- ---- The first of them

-- at one place the kinds are taken in this order
abbrev pub rank : CodeKind → ℕ
rank Opcode = 9
rank CutInstruction = 10
rank JumpTarget = 11
rank UnknownName = 12
rank ForbiddenCall = 13
rank FinalAccess = 14
rank Recursion = 15
rank ThreadInLoop = 16

-- an earlier method, an earlier place in one method, or an earlier kind at one place
pub data ComesBefore (id : MethodId) (pc : ℕ) (kind : CodeKind) (other : MethodId) (other_pc : ℕ) (other_kind : CodeKind) : Type 0 where
  earlier_method : IsBefore id other → ComesBefore id pc kind other other_pc other_kind
  earlier_place : id ≡ other → pc < other_pc → ComesBefore id pc kind other other_pc other_kind
  earlier_kind : id ≡ other → pc ≡ other_pc → rank kind < rank other_kind → ComesBefore id pc kind other other_pc other_kind

-- a fault of a reached method
pub record IsFaultAt (classes : List ClassRecord) (main id : MethodId) (pc : ℕ) (kind : CodeKind) (detail : Detail) : Type 0 where
  pub reached : IsReached classes main id
  pub fault : HasCodeFault classes main id pc kind detail

-- and no other comes before it
pub record IsFirstCodeFault (classes : List ClassRecord) (main id : MethodId) (pc : ℕ) (kind : CodeKind) (detail : Detail) : Type 0 where
  pub fault : IsFaultAt classes main id pc kind detail
  pub first : (other : MethodId) (other_pc : ℕ) (other_kind : CodeKind) (other_detail : Detail) →
      IsFaultAt classes main other other_pc other_kind other_detail → ComesBefore other other_pc other_kind id pc kind → ⊥

-- nothing is wrong with any reached instruction
abbrev pub IsFaultless : List ClassRecord → MethodId → Type 0
IsFaultless classes main = (id : MethodId) (pc : ℕ) (kind : CodeKind) (detail : Detail) → IsFaultAt classes main id pc kind detail → ⊥
