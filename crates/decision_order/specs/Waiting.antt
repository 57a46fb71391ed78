-- The variables that wait for a decision.
use Rattle.std.specs.Prelude.{Bool, false, ◌≡◌, ℕ, ◌^◌, ◌<◌, ◌≤◌, List, Option, Some, None, length, slice_index, slice_index_or}
use Rattle.clause_pool.specs.PoolValue.{IsIn}

-- the waiting variables in the order of the heap, the number of all variables, and the value that each had last
pub record OrderValue : Type 0 where
  pub waiting : List ℕ
  pub variables : ℕ
  pub phases : List Bool

abbrev pub phase_at : List Bool → ℕ → Bool
phase_at phases variable = slice_index_or phases variable false

-- each variable of the one list is in the other, but maybe for this one
abbrev pub StayBut : List ℕ → List ℕ → ℕ → Type 0
StayBut old new variable = (x : ℕ) → IsIn x old → (x ≡ variable → ⊥) → IsIn x new

abbrev pub Stay : List ℕ → List ℕ → Type 0
Stay old new = (x : ℕ) → IsIn x old → IsIn x new

abbrev pub place_at : List (Option ℕ) → ℕ → Option ℕ
place_at places variable = slice_index_or places variable None

-- the table has the place of each waiting variable, and None for the others
pub record IsPlaced (heap : List ℕ) (places : List (Option ℕ)) : Type 0 where
  pub below : (i : ℕ) → i < length heap → slice_index heap i < length places
  pub placed : (i : ℕ) → i < length heap → place_at places (slice_index heap i) ≡ Some i
  pub back : (variable i : ℕ) → place_at places variable ≡ Some i → (i < length heap) × (slice_index heap i ≡ variable)

-- the invariant of an order
pub record IsOrder (heap : List ℕ) (places : List (Option ℕ)) (capacity activities phases : ℕ) : Type 0 where
  pub placed : IsPlaced heap places
  pub room : length places ≤ capacity
  pub few : length places < 2 ^ 32
  pub activities_fit : activities ≡ length places
  pub phases_fit : phases ≡ length places
