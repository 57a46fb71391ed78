-- What is added to a set, one by one or in a pass over a list.
use Rattle.std.specs.Prelude.{◌≡◌, ◌<◌, ◌↔◌, ◌⊎◌, ℕ, List, Contains, Option, Some, slice_get}

-- the set has what it had, and what is added, if anything
abbrev pub IsAdded : {T : Type 0} → List T → Option T → List T → Type 0
IsAdded {T} old added new = (t : T) → Contains new t ↔ (Contains old t ⊎ (added ≡ Some t))

-- an item before place i of the list gives this
pub record IsGiven {X T : Type 0} (given : X → Option T) (xs : List X) (i : ℕ) (t : T) : Type 0 where
  pub item : X
  pub place : ℕ
  pub before : place < i
  pub at : slice_get xs place ≡ Some item
  pub gives : given item ≡ Some t

-- the set has what it had, and what the items before place i of the list give
abbrev pub AreAdded : {X T : Type 0} → List T → (X → Option T) → List X → ℕ → List T → Type 0
AreAdded {X} {T} old given xs i new = (t : T) → Contains new t ↔ (Contains old t ⊎ IsGiven given xs i t)
