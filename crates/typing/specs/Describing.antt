-- What a summary says of the states that it was made of.
use Rattle.std.specs.Prelude.{◌≡◌, ◌≢◌, ℕ, true, false, Option, Some, None, ◌⊎◌}
use Rattle.program.specs.declared.value_type.ValueType.{ValueType}
use Rattle.program.specs.declared.method.Frame.{Frame}
use Rattle.typing.specs.Faults.{Fails, Disagrees}
use Rattle.typing.specs.Objects.{fresh_of, made_of, object_of}
use Rattle.typing.specs.declared.object.Object.{Object}
use Rattle.typing.specs.States.{FrameState, ThreadState}
use Rattle.typing.specs.States as state
use Rattle.typing.specs.Summaries.{Summary, summary_of}
use Rattle.typing.specs.declared.deed.Deed.{Deed}
use Rattle.typing.specs.declared.joined.Joined.{Joined}
use Rattle.typing.specs.declared.joined_type.JoinedType.{JoinedType}
use Rattle.typing.specs.declared.joined_type.JoinedType.TheVariants.{Known, Made}
use Rattle.typing.specs.declared.refusal.TypeKind.{TypeKind}
use Rattle.typing.specs.declared.stage.Stage.{Stage}

-- ---- What holds of each state

abbrev pub FitsLocal : Option JoinedType → Option ValueType → Type 0
FitsLocal None v = Unit {0}
FitsLocal (Some (Known t)) v = v ≡ Some t
FitsLocal (Some (Made o)) v = (v ≡ Some (fresh_of o)) ⊎ (v ≡ Some (made_of o))

-- what is not so in this state is known not to be so on some path
pub record FitsStage (a : Stage) (v : ThreadState) : Type 0 where
  pub unready : v ≢ state.Ready → a.unready ≡ true
  pub unstarted : v ≢ state.Started → a.unstarted ≡ true
  pub unawaited : v ≢ state.Started → v ≢ state.Joined → a.unawaited ≡ true

pub record IsBelow (a : Summary) (s : FrameState) : Type 0 where
  pub stack : a.stacks_differ ≡ false → s.stack ≡ a.stack
  pub held : a.held_differs ≡ false → (monitor : ℕ) → s.held monitor ≡ a.held monitor
  pub local : (slot : ℕ) → FitsLocal (a.local slot) (s.local slot)
  pub stage : (k : ℕ) → FitsStage (a.stage k) (s.thread k)

-- ---- What comes about by some of the states

-- a local has nothing on one of two paths, or other types than those of one object
pub data Clash (v w : Option ValueType) : Type 0 where
  first : v ≡ None → Clash v w
  second : w ≡ None → Clash v w
  two : (t u : ValueType) → v ≡ Some t → w ≡ Some u → t ≢ u → ((o : Object) → object_of t ≡ Some o → object_of u ≡ Some o → ⊥) → Clash v w

-- one of the states has this in the local
pub record HasLocal (V : FrameState → Type 0) (slot : ℕ) (v : Option ValueType) : Type 0 where
  pub s : FrameState
  pub among : V s
  pub has : s.local slot ≡ v

pub record HasClash (V : FrameState → Type 0) (slot : ℕ) : Type 0 where
  pub s : FrameState
  pub t : FrameState
  pub s_among : V s
  pub t_among : V t
  pub clash : Clash (s.local slot) (t.local slot)

abbrev pub AttainsLocal : (FrameState → Type 0) → ℕ → Option JoinedType → Type 0
AttainsLocal V slot None = HasClash V slot
AttainsLocal V slot (Some (Known t)) = Unit {0}
AttainsLocal V slot (Some (Made o)) = HasLocal V slot (Some (fresh_of o)) × HasLocal V slot (Some (made_of o))

-- one of the states has a thread in such a state
pub record HasThread (V : FrameState → Type 0) (k : ℕ) (P : ThreadState → Type 0) : Type 0 where
  pub s : FrameState
  pub among : V s
  pub has : P (s.thread k)

-- what is known not to be so on some path is not so in one of the states
pub record AttainsStage (V : FrameState → Type 0) (k : ℕ) (a : Stage) : Type 0 where
  pub unready : a.unready ≡ true → HasThread V k (λ v. v ≢ state.Ready)
  pub unstarted : a.unstarted ≡ true → HasThread V k (λ v. v ≢ state.Started)
  pub unawaited : a.unawaited ≡ true → HasThread V k (λ v. (v ≢ state.Started) × (v ≢ state.Joined))

-- two of the states differ in the stack, or in a monitor
pub record DifferInStack (V : FrameState → Type 0) : Type 0 where
  pub s : FrameState
  pub t : FrameState
  pub s_among : V s
  pub t_among : V t
  pub differ : s.stack ≢ t.stack

pub record DifferInHeld (V : FrameState → Type 0) : Type 0 where
  pub s : FrameState
  pub t : FrameState
  pub s_among : V s
  pub t_among : V t
  pub monitor : ℕ
  pub differ : s.held monitor ≢ t.held monitor

-- ---- Both

-- exactly this is to be said of these states, of which there is one
pub record Describes (V : FrameState → Type 0) (a : Summary) : Type 0 where
  pub state : FrameState
  pub among : V state
  pub below : (s : FrameState) → V s → IsBelow a s
  pub stack : a.stacks_differ ≡ true → DifferInStack V
  pub held : a.held_differs ≡ true → DifferInHeld V
  pub local : (slot : ℕ) → AttainsLocal V slot (a.local slot)
  pub stage : (k : ℕ) → AttainsStage V k (a.stage k)

-- what is kept at a place describes the states there; nothing is kept where there is none
abbrev pub DescribesAt : (FrameState → Type 0) → Option Joined → Type 0
DescribesAt V None = (s : FrameState) → V s → ⊥
DescribesAt V (Some j) = Describes V (summary_of j)

-- the instruction fails in one of these states, or two of them disagree before it
pub data FaultIn (V : FrameState → Type 0) (f : Frame) (d : Deed) (k : TypeKind) : Type 0 where
  fails : (s : FrameState) → V s → Fails f d s k → FaultIn V f d k
  disagree : (s t : FrameState) → V s → V t → Disagrees d s t k → FaultIn V f d k
