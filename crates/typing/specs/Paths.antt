-- Paths of a method, and what is wrong on the shortest of them.
use Rattle.std.specs.Prelude.{◌≡◌, ◌<◌, ◌≤◌, ℕ, zero, suc, pos, Some, length, slice_get}
use Rattle.relations.specs.Least.{IsLeast}
use Rattle.opcodes.specs.Instructions.{Successor}
use Rattle.opcodes.specs.declared.instruction.Instr.{Instr}
use Rattle.typing.specs.Changes.{Change, Changes, meets, behind}
use Rattle.typing.specs.Deeds.{deed_of}
use Rattle.typing.specs.Faults.{Fails, Disagrees, rank_of}
use Rattle.typing.specs.States.{FrameState, entry_state, entry_types}
use Rattle.typing.specs.declared.deed.Deed.{Deed}
use Rattle.typing.specs.declared.refusal.TypeKind.{TypeKind}
use Rattle.typing.specs.declared.refusal.TypeKind.TheVariants as kind
use Rattle.typing.specs.declared.symbol.Symbol.{Symbol}
use Rattle.typing.specs.declared.untyped.UntypedMethod.{UntypedMethod}

-- the instruction at a place of the listing
pub record StandsIn (m : UntypedMethod) (place pc : ℕ) (instr : Instr) (symbol : Symbol) : Type 0 where
  pub listed : slice_get m.listing place ≡ Some (record { pc = pc; instr = instr })
  pub names : slice_get m.symbols place ≡ Some symbol

-- what the instruction at a place of the code does
pub record Does (m : UntypedMethod) (pc : ℕ) (deed : Deed) : Type 0 where
  pub place : ℕ
  pub instr : Instr
  pub symbol : Symbol
  pub stands : StandsIn m place pc instr symbol
  pub is_deed : deed ≡ deed_of instr symbol

-- one step of a path: the instruction changes the state, and a successor comes next
pub record Advances (m : UntypedMethod) (from : ℕ) (before : FrameState) (to : ℕ) (after : FrameState) : Type 0 where
  pub place : ℕ
  pub instr : Instr
  pub symbol : Symbol
  pub stands : StandsIn m place from instr symbol
  pub change : Change
  pub changes : meets m.frame.result (deed_of instr symbol) before ≡ Changes change
  pub result : after ≡ behind change before
  pub successor : Successor from instr (pos to)

-- a path with this many steps from the entry, that ends at this place of the code in this state
abbrev pub Path : UntypedMethod → ℕ → ℕ → FrameState → Type 0
Path m zero pc s = (pc ≡ 0) × (s ≡ entry_state m)
Path m (suc steps) pc s = (from : ℕ) × (before : FrameState) × Path m steps from before × Advances m from before pc s

-- a local that is filled at the entry is none of the frame
abbrev pub PastEntry : UntypedMethod → Type 0
PastEntry m = m.frame.max_locals < length (entry_types m.entry m.frame.parameters)

-- the path of no step fails
abbrev pub EntryFails : UntypedMethod → ℕ → TypeKind → Type 0
EntryFails m pc kind.StackDepth = (pc ≡ 0) × PastEntry m
EntryFails m pc _ = ⊥

-- a path of at most so many steps
pub record Within (m : UntypedMethod) (most pc : ℕ) (s : FrameState) : Type 0 where
  pub steps : ℕ
  pub few : steps ≤ most
  pub path : Path m steps pc s

-- a path of at most so many steps fails, or two of them disagree
pub data HasFault (m : UntypedMethod) (most pc : ℕ) (k : TypeKind) : Type 0 where
  enters : EntryFails m pc k → HasFault m most pc k
  fails : (d : Deed) (s : FrameState) → Does m pc d → Within m most pc s → Fails m.frame d s k → HasFault m most pc k
  disagree : (d : Deed) (s t : FrameState) → Does m pc d → Within m most pc s → Within m most pc t → Disagrees d s t k → HasFault m most pc k

-- some kind of fault is at some place
pub record IsFaulty (m : UntypedMethod) (most : ℕ) : Type 0 where
  pub pc : ℕ
  pub k : TypeKind
  pub fault : HasFault m most pc k

pub record IsFaultyAt (m : UntypedMethod) (most pc : ℕ) : Type 0 where
  pub k : TypeKind
  pub fault : HasFault m most pc k

-- the first kind of fault at the least place on the shortest paths
pub record IsRefusal (m : UntypedMethod) (k : TypeKind) (pc : ℕ) : Type 0 where
  pub most : ℕ
  pub shortest : IsLeast (IsFaulty m) most
  pub least : IsLeast (IsFaultyAt m most) pc
  pub fault : HasFault m most pc k
  pub first : (other : TypeKind) → HasFault m most pc other → rank_of k ≤ rank_of other
