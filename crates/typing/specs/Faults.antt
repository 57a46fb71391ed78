-- What can be wrong with an instruction on one path or on two, by kind.
use Rattle.std.specs.Prelude.{◌≡◌, ◌≢◌, ◌<◌, ◌≤◌, ℕ, Option, Some, None, length, ◌⊎◌}
use Rattle.program.specs.declared.method.Frame.{Frame}
use Rattle.program.specs.declared.value_type.ValueType.{ValueType}
use Rattle.typing.specs.Changes.{Meeting, Misfits, NoLock, Changes, meets, loaded_slot, used_slot}
use Rattle.typing.specs.States.{FrameState, ThreadState, Ready, Started, Joined}
use Rattle.typing.specs.declared.change.HeldChange.{HeldChange}
use Rattle.typing.specs.declared.change.HeldChange.TheVariants as held
use Rattle.typing.specs.declared.change.ThreadChange.{ThreadChange}
use Rattle.typing.specs.declared.change.ThreadChange.TheVariants as thread
use Rattle.typing.specs.declared.deed.Deed.{Deed}
use Rattle.typing.specs.declared.deed.Deed.TheVariants as deed
use Rattle.typing.specs.declared.refusal.TypeKind.{TypeKind}
use Rattle.typing.specs.declared.refusal.TypeKind.TheVariants as kind

-- the order of the kinds
abbrev pub rank_of : TypeKind → ℕ
rank_of kind.TypeMisfit = 0
rank_of kind.StackDepth = 1
rank_of kind.LockOperand = 2
rank_of kind.Unstructured = 3
rank_of kind.ThreadState = 4

-- the instruction uses a local that the frame doesn't have
abbrev pub PastLocals : Frame → Option ℕ → Type 0
PastLocals f None = ⊥
PastLocals f (Some slot) = f.max_locals ≤ slot

-- the stack behind the instruction is too high
abbrev pub PastStack : Frame → Meeting → Type 0
PastStack f Misfits = ⊥
PastStack f NoLock = ⊥
PastStack f (Changes c) = f.max_stack < length c.stack

-- a monitor is left that is not held
abbrev pub LeavesUnheld : HeldChange → (ℕ → ℕ) → Type 0
LeavesUnheld held.Stays counts = ⊥
LeavesUnheld (held.Enters m) counts = ⊥
LeavesUnheld (held.Leaves m) counts = counts m ≡ 0

abbrev pub MeetsUnheld : Meeting → (ℕ → ℕ) → Type 0
MeetsUnheld Misfits counts = ⊥
MeetsUnheld NoLock counts = ⊥
MeetsUnheld (Changes c) counts = LeavesUnheld c.held counts

abbrev pub IsReturn : Deed → Type 0
IsReturn deed.Return = Unit {0}
IsReturn deed.ReturnInt = Unit {0}
IsReturn _ = ⊥

-- a return holds a monitor
abbrev pub ReturnsHolding : Deed → (ℕ → ℕ) → Type 0
ReturnsHolding d counts = IsReturn d × ((m : ℕ) × (0 < counts m))

-- a thread is started that is not ready, waited for that is not started or waited for, or asked for that is not started
abbrev pub MissesThread : ThreadChange → (ℕ → ThreadState) → Type 0
MissesThread thread.Stays threads = ⊥
MissesThread (thread.Makes k) threads = ⊥
MissesThread (thread.Readies k) threads = ⊥
MissesThread (thread.Starts k) threads = threads k ≢ Ready
MissesThread (thread.Joins k) threads = (threads k ≢ Started) × (threads k ≢ Joined)
MissesThread (thread.Asks k) threads = threads k ≢ Started

abbrev pub MeetsUnready : Meeting → (ℕ → ThreadState) → Type 0
MeetsUnready Misfits threads = ⊥
MeetsUnready NoLock threads = ⊥
MeetsUnready (Changes c) threads = MissesThread c.thread threads

-- the instruction fails on a path that ends in this state
abbrev pub Fails : Frame → Deed → FrameState → TypeKind → Type 0
Fails f d s kind.TypeMisfit = meets f.result d s ≡ Misfits
Fails f d s kind.StackDepth = PastStack f (meets f.result d s) ⊎ PastLocals f (used_slot d)
Fails f d s kind.LockOperand = meets f.result d s ≡ NoLock
Fails f d s kind.Unstructured = MeetsUnheld (meets f.result d s) s.held ⊎ ReturnsHolding d s.held
Fails f d s kind.ThreadState = MeetsUnready (meets f.result d s) s.thread

-- a local that is loaded has two types
abbrev pub LoadsTwo : Option ℕ → FrameState → FrameState → Type 0
LoadsTwo None s t = ⊥
LoadsTwo (Some slot) s t = (a : ValueType) × (b : ValueType) × (s.local slot ≡ Some a) × (t.local slot ≡ Some b) × (a ≢ b)

-- two paths that end in these states before the instruction disagree
abbrev pub Disagrees : Deed → FrameState → FrameState → TypeKind → Type 0
Disagrees d s t kind.TypeMisfit = (s.stack ≢ t.stack) ⊎ LoadsTwo (loaded_slot d) s t
Disagrees d s t kind.Unstructured = (m : ℕ) × (s.held m ≢ t.held m)
Disagrees d s t _ = ⊥
