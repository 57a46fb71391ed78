-- How the reached spots are found.
use Rattle.std.specs.Prelude.{◌≡◌, ◌≤◌, ◌<◌, ◌+◌, ◌⊎◌, ◌↔◌, ℕ, Bool, cond, false, true, List, Contains, length}
use Rattle.std.specs.BTreeSet.{BTreeSet}
use Rattle.program.specs.Program.{Prog}
use Rattle.std.specs.List.Sorted.{IsStrictlySortedBy}
use Rattle.spots.specs.Order.{spot_cmp}
use Rattle.spots.specs.Spots.{IsReached, LeavesOut, StepsTo, begin_of}
use Rattle.spots.specs.declared.leads.Lead.{Lead}
use Rattle.spots.specs.declared.spot.Spot.{Spot}
use Rattle.reached_spots.specs.declared.exploration.Exploration.{Exploration}

-- some of these steps leads to the spot
abbrev pub LeadsAmong : List Lead → Spot → Type 0
LeadsAmong steps spot = (step : Lead) × Contains steps step × (spot ≡ step.to)

-- the beginning of some thread below the number
abbrev pub BeginsBelow : ℕ → Spot → Type 0
BeginsBelow n spot = (thread : ℕ) × (thread < n) × (spot ≡ begin_of thread)

-- the spot is in the set then, and it is said whether it is new there
pub record IsInserted (old new : BTreeSet Spot) (spot : Spot) (added : Bool) : Type 0 where
  pub has : (s : Spot) → Contains new.keys s ↔ (Contains old.keys s ⊎ (s ≡ spot))
  pub known : added ≡ false → Contains old.keys spot
  pub many : length new.keys ≡ length old.keys + cond added 1 0

-- the spots with this property were met
pub record IsMet (old new : Exploration) (T : Spot → Type 0) : Type 0 where
  pub seen : (s : Spot) → Contains new.seen.keys s ↔ (Contains old.seen.keys s ⊎ T s)
  pub kept : (s : Spot) → Contains old.waiting.items s → Contains new.waiting.items s
  pub added : (s : Spot) → Contains new.waiting.items s → Contains old.waiting.items s ⊎ T s
  pub fresh : (s : Spot) → Contains new.seen.keys s → Contains old.seen.keys s ⊎ Contains new.waiting.items s
  pub grown : length old.seen.keys ≤ length new.seen.keys
  pub as_many : length new.waiting.items + length old.seen.keys ≡ length old.waiting.items + length new.seen.keys

-- from some reached spot a step is left out
pub record SomeLeavesOut (p : Prog) (limit : ℕ) : Type 0 where
  pub spot : Spot
  pub is_reached : IsReached p limit spot
  pub leaves_out : LeavesOut p limit spot

-- all spots that were met are reached, and all that can be reached from them are met, once no spot waits
pub record IsExploring (p : Prog) (limit : ℕ) (x : Exploration) (left_out : Bool) : Type 0 where
  pub reached : (s : Spot) → Contains x.seen.keys s → IsReached p limit s
  pub met : (s : Spot) → Contains x.waiting.items s → Contains x.seen.keys s
  pub closed : (a b : Spot) → Contains x.seen.keys a → StepsTo p limit a b → Contains x.seen.keys b ⊎ Contains x.waiting.items a
  pub begins : (thread : ℕ) → thread < length p.threads → Contains x.seen.keys (begin_of thread)
  pub told : left_out ≡ true → SomeLeavesOut p limit
  pub left : (a : Spot) → Contains x.seen.keys a → LeavesOut p limit a → (left_out ≡ true) ⊎ Contains x.waiting.items a

-- the spots to which steps lead from a spot were met, and it is said whether one was left out
pub record IsExplored (p : Prog) (limit : ℕ) (old new : Exploration) (spot : Spot) (left_out : Bool) : Type 0 where
  pub met : IsMet old new (StepsTo p limit spot)
  pub told : (left_out ≡ true) ↔ LeavesOut p limit spot

-- how many spots the threads of a program may reach in all
abbrev pub code_nodes : ℕ
code_nodes = 1024

-- spots with this property were met, until there were too many
pub record HasTooMany (old new : Exploration) (T : Spot → Type 0) : Type 0 where
  pub seen : (s : Spot) → Contains new.seen.keys s → Contains old.seen.keys s ⊎ T s
  pub many : code_nodes < length new.seen.keys
  pub ordered : IsStrictlySortedBy spot_cmp new.seen.keys

-- more spots are reached than there may be
pub record AreTooMany (p : Prog) (limit : ℕ) : Type 0 where
  pub spots : List Spot
  pub ordered : IsStrictlySortedBy spot_cmp spots
  pub many : code_nodes < length spots
  pub reached : (s : Spot) → Contains spots s → IsReached p limit s
