-- One level of the paths: what comes from the places that changed, and what is kept then.
use Rattle.std.specs.Prelude.{◌≡◌, ◌≢◌, ◌<◌, ◌≤◌, ◌+◌, ◌++◌, ◌∷◌, [], ◌+ℤ◌, ℕ, ℤ, pos, negsuc, Bool, true, false, List, Option, Some, None, length, slice_get, slice_index, slice_index_or, Contains, ◌⊎◌, nat_eq}
use Rattle.std.specs.List.{list_any}
use Rattle.opcodes.specs.Instructions.{FallsThrough, jump_of, length_of}
use Rattle.opcodes.specs.Listing.{IsByPc}
use Rattle.opcodes.specs.declared.instruction.Instr.{Instr}
use Rattle.opcodes.specs.declared.listed.Listed.{Listed}
use Rattle.typing.specs.Deeds.{deed_of}
use Rattle.typing.specs.Describing.{DescribesAt, Describes}
use Rattle.typing.specs.Paths.{StandsIn, Path, Within, Advances, PastEntry, IsFaulty}
use Rattle.typing.specs.States.{FrameState}
use Rattle.typing.specs.Summaries.{Summary, summary_of, SummarizesEntry, IsSameSummary, Merges, IsChanging, Follows, Shows, IsFirstShown}
use Rattle.typing.specs.declared.deed.Deed.{Deed}
use Rattle.typing.specs.declared.joined.Joined.{Joined}
use Rattle.typing.specs.declared.level.Arrival.{Arrival}
use Rattle.typing.specs.declared.look.Found.{Found}
use Rattle.typing.specs.declared.refusal.TypeKind.{TypeKind}
use Rattle.typing.specs.declared.refusal.TypeKind.TheVariants as kind
use Rattle.typing.specs.declared.symbol.Symbol.{Symbol}
use Rattle.typing.specs.declared.untyped.UntypedMethod.{UntypedMethod}

-- ---- Places of the listing

-- the instruction at this place of the list stands there in the code
abbrev pub IsPlaceOf : List Listed → ℕ → ℕ → Type 0
IsPlaceOf listing pc place = (l : Listed) × (slice_get listing place ≡ Some l) × (l.pc ≡ pc)

-- the instruction at one place of the list may come after that at another, by falling through or by its jump
abbrev pub FallsTo : List Listed → Listed → ℕ → Type 0
FallsTo listing at to = FallsThrough at.instr × IsPlaceOf listing (at.pc + length_of at.instr) to

abbrev pub natural_of : ℤ → Option ℕ
natural_of (pos n) = Some n
natural_of (negsuc n) = None

abbrev pub JumpsTo : List Listed → Listed → ℕ → Type 0
JumpsTo listing at to = (distance : ℤ) × (pc : ℕ) × (jump_of at.instr ≡ Some distance) × (pos pc ≡ pos at.pc +ℤ distance) × IsPlaceOf listing pc to

abbrev pub StepsFrom : List Listed → Listed → ℕ → Type 0
StepsFrom listing at to = FallsTo listing at to ⊎ JumpsTo listing at to

abbrev pub StepsTo : List Listed → ℕ → ℕ → Type 0
StepsTo listing place to = (at : Listed) × (slice_get listing place ≡ Some at) × StepsFrom listing at to

-- what the instruction at a place of the list does
pub record DoesAt (m : UntypedMethod) (place : ℕ) (deed : Deed) : Type 0 where
  pub pc : ℕ
  pub instr : Instr
  pub symbol : Symbol
  pub stands : StandsIn m place pc instr symbol
  pub is_deed : deed ≡ deed_of instr symbol

-- ---- Arrivals

-- what is kept at a place of the list
abbrev pub kept_at : List (Option Joined) → ℕ → Option Joined
kept_at states place = slice_index_or states place None

-- something is kept at a place, which its instruction changes
pub record IsAdvancing (m : UntypedMethod) (states : List (Option Joined)) (place : ℕ) : Type 0 where
  pub inside : place < length m.listing
  pub state : Joined
  pub kept : kept_at states place ≡ Some state
  pub changing : (d : Deed) → DoesAt m place d → IsChanging m.frame.result d (summary_of state)

-- what is kept behind the instruction at a place
pub record ComesFrom (m : UntypedMethod) (states : List (Option Joined)) (from : ℕ) (next : Joined) : Type 0 where
  pub state : Joined
  pub kept : kept_at states from ≡ Some state
  pub deed : Deed
  pub does : DoesAt m from deed
  pub follows : Follows m.frame.result deed (summary_of state) (summary_of next)

pub record IsArrival (m : UntypedMethod) (states : List (Option Joined)) (a : Arrival) : Type 0 where
  pub inside : a.from < length m.listing
  pub comes : ComesFrom m states a.from a.state
  pub steps : StepsTo m.listing a.from a.to

-- an arrival from one place at another
pub record HasArrival (arrivals : List Arrival) (from to : ℕ) : Type 0 where
  pub arrival : Arrival
  pub among : Contains arrivals arrival
  pub is_from : arrival.from ≡ from
  pub is_to : arrival.to ≡ to

-- ---- States of places

-- the states of the paths of at most so many steps that end at a place of the list
pub record EndsAt (m : UntypedMethod) (most place : ℕ) (s : FrameState) : Type 0 where
  pub at : Listed
  pub listed : slice_get m.listing place ≡ Some at
  pub within : Within m most at.pc s

-- the states of the paths that come from one place to another by one step more
pub record StepsOn (m : UntypedMethod) (most from to : ℕ) (s : FrameState) : Type 0 where
  pub at : Listed
  pub listed : slice_get m.listing from ≡ Some at
  pub next : Listed
  pub is_next : slice_get m.listing to ≡ Some next
  pub before : FrameState
  pub within : Within m most at.pc before
  pub advances : Advances m at.pc before next.pc s

-- the states of a place, and those of the first of some arrivals there
pub data Landed (m : UntypedMethod) (most : ℕ) (arrivals : List Arrival) (count place : ℕ) (s : FrameState) : Type 0 where
  stays : EndsAt m most place s → Landed m most arrivals count place s
  comes : (k : ℕ) (a : Arrival) → k < count → slice_get arrivals k ≡ Some a → a.to ≡ place → StepsOn m most a.from place s → Landed m most arrivals count place s

-- each place keeps what describes its states, and each arrival what describes those that come
pub record IsDescribed (m : UntypedMethod) (most : ℕ) (states : List (Option Joined)) (arrivals : List Arrival) : Type 0 where
  pub places : (place : ℕ) → DescribesAt (EndsAt m most place) (kept_at states place)
  pub arriving : (k : ℕ) (a : Arrival) → slice_get arrivals k ≡ Some a → Describes (StepsOn m most a.from a.to) (summary_of a.state)

-- ---- Faults

-- what is shown at a place
pub record ShowsAt (m : UntypedMethod) (states : List (Option Joined)) (place : ℕ) (k : TypeKind) : Type 0 where
  pub state : Joined
  pub kept : kept_at states place ≡ Some state
  pub deed : Deed
  pub does : DoesAt m place deed
  pub shows : Shows m.frame deed (summary_of state) k

-- the first kind that is shown at a place, if any
abbrev pub IsFirstAt : UntypedMethod → List (Option Joined) → ℕ → Option TypeKind → Type 0
IsFirstAt m states place None = (k : TypeKind) → ShowsAt m states place k → ⊥
IsFirstAt m states place (Some k) = (state : Joined) × (deed : Deed) × (kept_at states place ≡ Some state) × DoesAt m place deed × IsFirstShown m.frame deed (summary_of state) (Some k)

-- one arrival more, with the same summary
pub record Adds (old new : List Arrival) (from to : ℕ) (a : Summary) : Type 0 where
  pub state : Joined
  pub same : IsSameSummary (summary_of state) a
  pub is_new : new ≡ old ++ record { from = from; to = to; state = state } ∷ []

-- an arrival from this place at one of these, with the same summary
pub record IsFrom (from : ℕ) (targets : List ℕ) (s : Summary) (a : Arrival) : Type 0 where
  pub is_from : a.from ≡ from
  pub among : Contains targets a.to
  pub same : IsSameSummary (summary_of a.state) s

-- a place takes an arrival, and changes or not
abbrev pub Absorbs : Option Joined → Option Joined → Summary → Bool → Type 0
Absorbs old new a true = (y : Joined) × (new ≡ Some y) × Merges old a (Some y)
Absorbs old new a false = (new ≡ old) × Merges old a None

-- ---- Whole levels

-- the states of the paths of fewer steps that end at a place of the list
pub record EndsBefore (m : UntypedMethod) (count place : ℕ) (s : FrameState) : Type 0 where
  pub at : Listed
  pub listed : slice_get m.listing place ≡ Some at
  pub steps : ℕ
  pub fewer : steps < count
  pub path : Path m steps at.pc s

-- each place keeps what describes its states; where it did not change, also those of fewer steps; nothing was wrong on
-- shorter paths, and nothing is at the places that did not change
pub record IsUnlooked (m : UntypedMethod) (most : ℕ) (states : List (Option Joined)) (changed : List ℕ) : Type 0 where
  pub long : length states ≡ length m.listing
  pub described : (q : ℕ) → DescribesAt (EndsAt m most q) (kept_at states q)
  pub old : (q : ℕ) → list_any (nat_eq q) changed ≡ false → DescribesAt (EndsBefore m most q) (kept_at states q)
  pub quiet : (q : ℕ) (k : TypeKind) → list_any (nat_eq q) changed ≡ false → ShowsAt m states q k → ⊥
  pub entry : PastEntry m → ⊥
  pub earlier : (shorter : ℕ) → shorter < most → IsFaulty m shorter → ⊥
  pub inside : (q : ℕ) → Contains changed q → (q < length states) × ((x : Joined) × (kept_at states q ≡ Some x))

-- the same, and nothing is wrong at any place
pub record IsLevel (m : UntypedMethod) (most : ℕ) (states : List (Option Joined)) (changed : List ℕ) : Type 0 where
  pub level : IsUnlooked m most states changed
  pub sound : (q : ℕ) (k : TypeKind) → ShowsAt m states q k → ⊥

-- ---- Faults found

-- the place of the code of a place of the list
abbrev pub StandsOn : List Listed → ℕ → ℕ → Type 0
StandsOn listing place pc = (at : Listed) × (slice_get listing place ≡ Some at) × (pc ≡ at.pc) × IsByPc listing

-- nothing is shown at the places of the list before an index, or the fault is the first at the least of them with one
abbrev pub IsLeastFound : UntypedMethod → List (Option Joined) → List ℕ → ℕ → Option Found → Type 0
IsLeastFound m states changed count None = (i : ℕ) (k : TypeKind) → i < count → ShowsAt m states (slice_index changed i) k → ⊥
IsLeastFound m states changed count (Some f) =
    (f.place < length m.listing) × IsFirstAt m states f.place (Some f.kind) × ((i : ℕ) (k : TypeKind) → i < count → slice_index changed i < f.place → ShowsAt m states (slice_index changed i) k → ⊥)

-- the fault at the lesser place
abbrev pub IsSooner : Option Found → ℕ → Option TypeKind → Option Found → Type 0
IsSooner best place None r = r ≡ best
IsSooner None place (Some k) r = r ≡ Some (record { place = place; kind = k })
IsSooner (Some f) place (Some k) r = ((f.place ≤ place) × (r ≡ Some f)) ⊎ ((place < f.place) × (r ≡ Some (record { place = place; kind = k })))

-- what is kept before the first step
pub record IsBegun (m : UntypedMethod) (states : List (Option Joined)) : Type 0 where
  pub long : length states ≡ length m.listing
  pub first : (x : Joined) × (kept_at states 0 ≡ Some x) × SummarizesEntry m (summary_of x)
  pub others : (q : ℕ) → q ≢ 0 → kept_at states q ≡ None

-- the first kind of fault at the entry, where a local is filled that the frame doesn't have
pub data IsEntryKind (fault : Option TypeKind) (k : TypeKind) : Type 0 where
  misfit : fault ≡ Some kind.TypeMisfit → k ≡ kind.TypeMisfit → IsEntryKind fault k
  depth : fault ≢ Some kind.TypeMisfit → k ≡ kind.StackDepth → IsEntryKind fault k
