-- What is kept at a place of the states of all paths that come there.
use Rattle.std.specs.Prelude.{◌≡◌, ◌≢◌, ◌≤◌, ℕ, Bool, true, false, List, [], Option, Some, None, slice_get, ◌⊎◌}
use Rattle.std.specs.Option.{option_map, option_and_then}
use Rattle.program.specs.declared.method.Frame.{Frame}
use Rattle.program.specs.declared.value_type.ValueType.{ValueType}
use Rattle.typing.specs.Changes.{Change, Meeting, Misfits, NoLock, Changes, meeting, loaded_slot, used_slot, held_behind}
use Rattle.typing.specs.Faults.{PastStack, PastLocals, MeetsUnheld, ReturnsHolding, rank_of}
use Rattle.typing.specs.Joining.{JoinsLocal, stage_of, either_stage, known, local_at, count_at, stage_at, joined_locals_behind, stages_behind}
use Rattle.typing.specs.States.{entry_types}
use Rattle.typing.specs.States as state
use Rattle.typing.specs.declared.change.ThreadChange.{ThreadChange}
use Rattle.typing.specs.declared.change.ThreadChange.TheVariants as thread
use Rattle.typing.specs.declared.deed.Deed.{Deed}
use Rattle.typing.specs.declared.effect.Met.{Met}
use Rattle.typing.specs.declared.joined.Joined.{Joined}
use Rattle.typing.specs.declared.joined_type.JoinedType.{JoinedType}
use Rattle.typing.specs.declared.joined_type.JoinedType.TheVariants.{Known}
use Rattle.typing.specs.declared.refusal.TypeKind.{TypeKind}
use Rattle.typing.specs.declared.refusal.TypeKind.TheVariants as kind
use Rattle.typing.specs.declared.stage.Stage.{Stage}
use Rattle.typing.specs.declared.untyped.UntypedMethod.{UntypedMethod}

-- what is known of the locals; the stack, and whether two paths have different ones; the counts of the monitors, and
-- whether two paths have different ones; how far the threads have come
pub record Summary : Type 0 where
  pub local : ℕ → Option JoinedType
  pub stack : List ValueType
  pub stacks_differ : Bool
  pub held : ℕ → ℕ
  pub held_differs : Bool
  pub stage : ℕ → Stage

abbrev pub summary_of : Joined → Summary
summary_of j = record { local = local_at j.locals; stack = j.stack; stacks_differ = j.stacks_differ; held = count_at j.held; held_differs = j.held_differs; stage = stage_at j.threads }

-- the summary of the state of the entry
pub record SummarizesEntry (m : UntypedMethod) (a : Summary) : Type 0 where
  pub local : (slot : ℕ) → a.local slot ≡ option_map Known (slice_get (entry_types m.entry m.frame.parameters) slot)
  pub stack : a.stack ≡ []
  pub stacks_agree : a.stacks_differ ≡ false
  pub held : (monitor : ℕ) → a.held monitor ≡ 0
  pub held_agrees : a.held_differs ≡ false
  pub stage : (k : ℕ) → a.stage k ≡ stage_of state.Unmade

-- the summary of the paths of two summaries
pub record JoinsSummaries (a b c : Summary) : Type 0 where
  pub local : (slot : ℕ) → JoinsLocal (a.local slot) (b.local slot) (c.local slot)
  pub stack : c.stack ≡ a.stack
  pub stacks_agree : c.stacks_differ ≡ false → (a.stacks_differ ≡ false) × (b.stacks_differ ≡ false) × (a.stack ≡ b.stack)
  pub stacks_differ : c.stacks_differ ≡ true → (a.stacks_differ ≡ true) ⊎ ((b.stacks_differ ≡ true) ⊎ (a.stack ≢ b.stack))
  pub held : (monitor : ℕ) → c.held monitor ≡ a.held monitor
  pub held_agrees : c.held_differs ≡ false → (a.held_differs ≡ false) × (b.held_differs ≡ false) × ((monitor : ℕ) → a.held monitor ≡ b.held monitor)
  pub held_differs : c.held_differs ≡ true → (a.held_differs ≡ true) ⊎ ((b.held_differs ≡ true) ⊎ ((monitor : ℕ) × (a.held monitor ≢ b.held monitor)))
  pub stage : (k : ℕ) → c.stage k ≡ either_stage (a.stage k) (b.stage k)

-- two summaries that say the same
pub record IsSameSummary (a b : Summary) : Type 0 where
  pub local : (slot : ℕ) → a.local slot ≡ b.local slot
  pub stack : a.stack ≡ b.stack
  pub stacks_differ : a.stacks_differ ≡ b.stacks_differ
  pub held : (monitor : ℕ) → a.held monitor ≡ b.held monitor
  pub held_differs : a.held_differs ≡ b.held_differs
  pub stage : (k : ℕ) → a.stage k ≡ b.stage k

-- how an instruction meets the states of a summary
abbrev pub summary_meets : Bool → Deed → Summary → Meeting
summary_meets result d a = meeting result d (option_and_then (λ slot. known (a.local slot)) (loaded_slot d)) a.stack

-- the summary behind an instruction
pub record IsBehind (c : Change) (a b : Summary) : Type 0 where
  pub local : (slot : ℕ) → b.local slot ≡ joined_locals_behind c.local a.local slot
  pub stack : b.stack ≡ c.stack
  pub stacks_agree : b.stacks_differ ≡ false
  pub held : (monitor : ℕ) → b.held monitor ≡ held_behind c.held a.held monitor
  pub held_agrees : b.held_differs ≡ false
  pub stage : (k : ℕ) → b.stage k ≡ stages_behind c.thread a.stage k

-- the summary behind an instruction that meets the states of another one
pub record Follows (result : Bool) (d : Deed) (a b : Summary) : Type 0 where
  pub change : Change
  pub changes : summary_meets result d a ≡ Changes change
  pub behind : IsBehind change a b

-- a thread is started that is not ready on some path, waited for that is not started or waited for, or asked for that is not
-- started
abbrev pub MissesStage : ThreadChange → (ℕ → Stage) → Type 0
MissesStage thread.Stays stages = ⊥
MissesStage (thread.Makes k) stages = ⊥
MissesStage (thread.Readies k) stages = ⊥
MissesStage (thread.Starts k) stages = (stages k).unready ≡ true
MissesStage (thread.Joins k) stages = (stages k).unawaited ≡ true
MissesStage (thread.Asks k) stages = (stages k).unstarted ≡ true

abbrev pub MeetsMixed : Meeting → (ℕ → Stage) → Type 0
MeetsMixed Misfits stages = ⊥
MeetsMixed NoLock stages = ⊥
MeetsMixed (Changes c) stages = MissesStage c.thread stages

-- what is wrong on some path of the summary, or on two
abbrev pub Shows : Frame → Deed → Summary → TypeKind → Type 0
Shows f d a kind.TypeMisfit = (a.stacks_differ ≡ true) ⊎ (summary_meets f.result d a ≡ Misfits)
Shows f d a kind.StackDepth = PastStack f (summary_meets f.result d a) ⊎ PastLocals f (used_slot d)
Shows f d a kind.LockOperand = summary_meets f.result d a ≡ NoLock
Shows f d a kind.Unstructured = (a.held_differs ≡ true) ⊎ (MeetsUnheld (summary_meets f.result d a) a.held ⊎ ReturnsHolding d a.held)
Shows f d a kind.ThreadState = MeetsMixed (summary_meets f.result d a) a.stage

-- the first kind that is shown, if any
abbrev pub IsFirstShown : Frame → Deed → Summary → Option TypeKind → Type 0
IsFirstShown f d a None = (k : TypeKind) → Shows f d a k → ⊥
IsFirstShown f d a (Some k) = Shows f d a k × ((other : TypeKind) → Shows f d a other → rank_of k ≤ rank_of other)

-- the instruction changes the states of the summary
pub record IsChanging (result : Bool) (d : Deed) (a : Summary) : Type 0 where
  pub change : Change
  pub changes : summary_meets result d a ≡ Changes change

-- the change that the code's answer means
abbrev pub change_of : Met → Change
change_of m = record { stack = m.stack; local = m.changed.local; held = m.changed.held; thread = m.changed.thread }

abbrev pub IsMet : Meeting → Met → Type 0
IsMet meeting met = meeting ≡ Changes (change_of met)

-- what a place keeps behind an arrival, where it changes
abbrev pub Merges : Option Joined → Summary → Option Joined → Type 0
Merges None a (Some y) = IsSameSummary (summary_of y) a
Merges None a None = ⊥
Merges (Some x) a (Some y) = JoinsSummaries (summary_of x) a (summary_of y)
Merges (Some x) a None = (y : Summary) × JoinsSummaries (summary_of x) a y × IsSameSummary y (summary_of x)
