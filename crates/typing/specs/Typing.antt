-- The types that a method has on all its paths.
use Rattle.std.specs.Prelude.{◌≡◌, ◌<◌, ◌↔◌, ℕ, ℤ, pos, List, Some, length, slice_get, reverse, AllPairs, Contains}
use Rattle.relations.specs.Path.{Walk}
use Rattle.opcodes.specs.Instructions.{Successor}
use Rattle.opcodes.specs.Listing.{StandsAt}
use Rattle.opcodes.specs.declared.instruction.Instr.{Instr}
use Rattle.opcodes.specs.declared.listed.Listed.{Listed}
use Rattle.program.specs.declared.value_type.TypedState.{TypedState}
use Rattle.program.specs.declared.value_type.ValueType.{ValueType}
use Rattle.typing.specs.Paths.{Path, IsFaulty, IsRefusal}
use Rattle.typing.specs.States.{FrameState}
use Rattle.typing.specs.declared.refusal.TypeRefusal.{TypeRefusal}
use Rattle.typing.specs.declared.refusal.TypeRefusal.TheVariants.{Refused, Memory}
use Rattle.typing.specs.declared.untyped.UntypedMethod.{UntypedMethod}

-- ---- Listings

-- one listed instruction may come after another
pub record Leads (listing : List Listed) (from to : ℕ) : Type 0 where
  pub instr : Instr
  pub stands : StandsAt listing from instr
  pub successor : Successor from instr (pos to)

-- an instruction is listed at this place of the code
pub record IsListed (listing : List Listed) (place : ℤ) : Type 0 where
  pub pc : ℕ
  pub is_place : place ≡ pos pc
  pub instr : Instr
  pub stands : StandsAt listing pc instr

-- some list of successors leads from the first instruction to each
abbrev pub AllReached : List Listed → Type 0
AllReached listing = (pc : ℕ) (instr : Instr) → StandsAt listing pc instr → Walk (Leads listing) 0 pc

-- ---- Types

-- some path ends at this place of the code in this state
pub record Arrives (m : UntypedMethod) (pc : ℕ) (s : FrameState) : Type 0 where
  pub steps : ℕ
  pub path : Path m steps pc s

-- what is known before the instruction at a place: the locals that have one type on all paths, by slot; the stack of all
-- paths, the lowest first; the monitors that are held on all paths, by number
pub record IsTypedState (m : UntypedMethod) (pc : ℕ) (state : TypedState) : Type 0 where
  pub is_reached : (s : FrameState) × Arrives m pc s
  pub by_slot : AllPairs (λ a b. a.slot < b.slot) state.locals
  pub locals : (slot : ℕ) (t : ValueType) → Contains state.locals (record { slot = slot; holds = t }) ↔ ((s : FrameState) → Arrives m pc s → s.local slot ≡ Some t)
  pub stack : (s : FrameState) → Arrives m pc s → s.stack ≡ reverse state.stack
  pub by_monitor : AllPairs (λ a b. a.monitor < b.monitor) state.held
  pub held : (monitor count : ℕ) → Contains state.held (record { monitor = monitor; count = count }) ↔ ((0 < count) × ((s : FrameState) → Arrives m pc s → s.held monitor ≡ count))

-- no path fails, no two disagree, and each instruction has its typed state
pub record IsTyping (m : UntypedMethod) (states : List TypedState) : Type 0 where
  pub sound : (most : ℕ) → IsFaulty m most → ⊥
  pub whole : length states ≡ length m.listing
  pub typed : (place : ℕ) (listed : Listed) (state : TypedState) → slice_get m.listing place ≡ Some listed → slice_get states place ≡ Some state → IsTypedState m listed.pc state

-- the refusal is that of the method; want of memory says nothing
abbrev pub IsRefused : UntypedMethod → TypeRefusal → Type 0
IsRefused m (Refused k pc) = IsRefusal m k pc
IsRefused m Memory = Unit {0}
