-- Events, the paths between them, and clocks.
use Rattle.std.specs.Prelude.{◌≡◌, ◌<◌, ◌≤◌, ◌+◌, ◌↔◌, ℕ, List, Some, slice_get, slice_index, slice_index_or, length, IfSome, ◌⊎◌}
use Rattle.relations.specs.Path.{Path, Walk}
use Rattle.clocks.specs.declared.clock.Clock.{Clock}
use Rattle.clocks.specs.declared.pass.Event.{Event}

-- a leads to b, where it stands before it
pub data IsLinked (a b : Event) : Type 0 where
  same_thread : a.thread ≡ b.thread → IsLinked a b
  same_channel : (c : ℕ) → a.gives ≡ Some c → b.takes ≡ Some c → IsLinked a b

-- the event at place i leads to the later one at place j
pub record Leads (events : List Event) (i j : ℕ) : Type 0 where
  pub before : i < j
  pub from : Event
  pub to : Event
  pub is_from : slice_get events i ≡ Some from
  pub is_to : slice_get events j ≡ Some to
  pub linked : IsLinked from to

-- the clock knows the event at place i, of this thread
abbrev pub Knows : Clock → ℕ → ℕ → Type 0
Knows clock i thread = i < slice_index clock.known thread

-- the clock of the event at place j: it knows exactly the events from which a path leads there
abbrev pub IsClockOf : List Event → ℕ → Clock → Type 0
IsClockOf events j clock = (i : ℕ) (a : Event) → slice_get events i ≡ Some a → Knows clock i a.thread ↔ Path (Leads events) i j

-- each count of the clock is that of an event of its thread
abbrev pub IsCount : List Event → ℕ → ℕ → Type 0
IsCount events t count = (count ≡ 0) ⊎ ((k : ℕ) × (a : Event) × (count ≡ k + 1) × (slice_get events k ≡ Some a) × (a.thread ≡ t))

abbrev pub IsTight : List Event → Clock → Type 0
IsTight events clock = (t : ℕ) → IsCount events t (slice_index clock.known t)

abbrev pub AreTight : List Event → List Clock → Type 0
AreTight events clocks = (i : ℕ) (d : Clock) → i < length clocks → IsTight events (slice_index_or clocks i d)

-- a list of clocks, one for each event
pub record AreClocks (events : List Event) (clocks : List Clock) : Type 0 where
  pub each : length clocks ≡ length events
  pub tight : AreTight events clocks
  pub exact : (j : ℕ) (clock : Clock) → slice_get clocks j ≡ Some clock → IsClockOf events j clock

-- the thread and the channels of an event are below these bounds, where the channels are numbered behind eight threads
pub record FitsIn (count : ℕ) (a : Event) : Type 0 where
  pub thread : a.thread < 8
  pub takes : IfSome a.takes (λ c. 8 + c < count)
  pub gives : IfSome a.gives (λ c. 8 + c < count)

-- ---- What the pass keeps

-- the clock knows exactly the events from which a walk leads to an event of the set
abbrev pub Covers : List Event → Clock → (ℕ → Type 0) → Type 0
Covers events clock set = (i : ℕ) (a : Event) → slice_get events i ≡ Some a → Knows clock i a.thread ↔ ((k : ℕ) × set k × Walk (Leads events) i k)

-- an event of the thread before place j
pub record IsOfThread (events : List Event) (j t k : ℕ) : Type 0 where
  pub before : k < j
  pub event : Event
  pub is_event : slice_get events k ≡ Some event
  pub thread : event.thread ≡ t

-- an event before place j that gives to the channel
pub record IsGiver (events : List Event) (j c k : ℕ) : Type 0 where
  pub before : k < j
  pub event : Event
  pub is_event : slice_get events k ≡ Some event
  pub gives : event.gives ≡ Some c

-- what the threads know before place j
abbrev pub KnowsThreads : List Event → ℕ → List Clock → Type 0
KnowsThreads events j known = (t : ℕ) (d : Clock) → t < 8 → Covers events (slice_index_or known t d) (IsOfThread events j t)

-- what the channels, which stand behind the threads, know before place j
abbrev pub KnowsChannels : List Event → ℕ → List Clock → Type 0
KnowsChannels events j known = (c : ℕ) (d : Clock) → 8 + c < length known → Covers events (slice_index_or known (8 + c) d) (IsGiver events j c)

pub record KnowsBefore (events : List Event) (j : ℕ) (known : List Clock) : Type 0 where
  pub room : 8 ≤ length known
  pub threads : KnowsThreads events j known
  pub channels : KnowsChannels events j known

-- ---- First takers

-- the event at place r is of this thread and takes from the channel
pub record IsTaker (events : List Event) (c t r : ℕ) : Type 0 where
  pub event : Event
  pub is_event : slice_get events r ≡ Some event
  pub takes : event.takes ≡ Some c
  pub thread : event.thread ≡ t

-- for each thread the first event before place j that takes from the channel, or the number of events where there is none
pub record FindsTakers (events : List Event) (j c : ℕ) (first : Clock) : Type 0 where
  pub found : (t : ℕ) → t < 8 → slice_index first.known t < length events → IsTaker events c t (slice_index first.known t)
  pub least : (t r : ℕ) → t < 8 → r < j → IsTaker events c t r → slice_index first.known t ≤ r

abbrev pub FindAllTakers : List Event → ℕ → List Clock → Type 0
FindAllTakers events j takers = (c : ℕ) (d : Clock) → c < length takers → FindsTakers events j c (slice_index_or takers c d)

-- ---- What is asked of the clocks

-- no path leads from an event of the thread to this one
abbrev pub IsUnknown : List Event → ℕ → ℕ → Type 0
IsUnknown events t j = (i : ℕ) (a : Event) → slice_get events i ≡ Some a → a.thread ≡ t → Path (Leads events) i j → ⊥

-- the last event of the thread from which a path leads to this one
pub record IsLastKnown (events : List Event) (t j i : ℕ) : Type 0 where
  pub event : Event
  pub is_event : slice_get events i ≡ Some event
  pub thread : event.thread ≡ t
  pub path : Path (Leads events) i j
  pub last : (k : ℕ) (a : Event) → slice_get events k ≡ Some a → a.thread ≡ t → Path (Leads events) k j → k ≤ i

-- some event lies between on a path
abbrev pub LiesBetween : List Event → ℕ → ℕ → Type 0
LiesBetween events i j = (k : ℕ) × Path (Leads events) i k × Path (Leads events) k j

-- some event that takes from the channel is this one, or a path leads from it there
abbrev pub IsTakenBefore : List Event → ℕ → ℕ → Type 0
IsTakenBefore events c j = (t r : ℕ) × IsTaker events c t r × Walk (Leads events) r j

-- and some event lies between
abbrev pub IsTakenBetween : List Event → ℕ → ℕ → Type 0
IsTakenBetween events c j = (k : ℕ) × IsTakenBefore events c k × Path (Leads events) k j
