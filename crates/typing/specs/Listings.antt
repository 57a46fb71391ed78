-- Lists of what holds of numbers, by number.
use Rattle.std.specs.Prelude.{◌≡◌, ◌<◌, ◌++◌, ◌∷◌, [], ◌⊎◌, ℕ, List, Option, Some, None, AllPairs, Contains}
use Rattle.program.specs.declared.value_type.HeldMonitor.{HeldMonitor}
use Rattle.program.specs.declared.value_type.TypedLocal.{TypedLocal}
use Rattle.program.specs.declared.value_type.TypedState.{TypedState}
use Rattle.std.specs.Prelude.{reverse, length, slice_get}
use Rattle.program.specs.declared.value_type.ValueType.{ValueType}
use Rattle.typing.specs.Levels.{kept_at}
use Rattle.typing.specs.Summaries.{Summary, summary_of}
use Rattle.typing.specs.declared.joined.Joined.{Joined}
use Rattle.typing.specs.declared.joined_type.JoinedType.TheVariants.{Known}

-- exactly the items of which this holds, by their numbers
pub record Lists {X : Type 0} (number : X → ℕ) (Holds : X → Type 0) (xs : List X) : Type 0 where
  pub by_number : AllPairs (λ a b. number a < number b) xs
  pub sound : (a : X) → Contains xs a → Holds a
  pub whole : (a : X) → Holds a → Contains xs a

-- a local has this type, a monitor is held so often
abbrev pub HasType : Summary → TypedLocal → Type 0
HasType a l = a.local l.slot ≡ Some (Known l.holds)

abbrev pub IsHeld : Summary → HeldMonitor → Type 0
IsHeld a h = (0 < h.count) × (a.held h.monitor ≡ h.count)

-- the typed state that a summary says
pub record IsTold (a : Summary) (state : TypedState) : Type 0 where
  pub locals : Lists (λ (l : TypedLocal). l.slot) (HasType a) state.locals
  pub stack : a.stack ≡ reverse state.stack
  pub held : Lists (λ (h : HeldMonitor). h.monitor) (IsHeld a) state.held

abbrev pub AddsLocal : List TypedLocal → ℕ → Option ValueType → List TypedLocal → Type 0
AddsLocal old slot None new = new ≡ old
AddsLocal old slot (Some t) new = new ≡ old ++ record { slot = slot; holds = t } ∷ []

abbrev pub AddsHeld : List HeldMonitor → ℕ → ℕ → List HeldMonitor → Type 0
AddsHeld old monitor count new = ((count ≡ 0) × (new ≡ old)) ⊎ ((0 < count) × (new ≡ old ++ record { monitor = monitor; count = count } ∷ []))

-- the typed states of the first places
pub record IsToldOf (states : List (Option Joined)) (count : ℕ) (told : List TypedState) : Type 0 where
  pub long : length told ≡ count
  pub each : (q : ℕ) (x : Joined) (s : TypedState) → kept_at states q ≡ Some x → slice_get told q ≡ Some s → IsTold (summary_of x) s
