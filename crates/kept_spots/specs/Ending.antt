-- Spots that lead to the end.
use Rattle.std.specs.Prelude.{◌≡◌, ℕ, Bool, true, Contains, List, Option, Some, slice_get}
use Rattle.relations.specs.Path.{Walk}
use Rattle.program.specs.Program.{Prog}
use Rattle.spots.specs.Spots.{StepsTo, end_of}
use Rattle.spots.specs.declared.spot.Position.TheVariants.{End}
use Rattle.spots.specs.declared.spot.Spot.{Spot}

-- the spot is the end of its thread
abbrev pub IsAtEnd : Spot → Type 0
IsAtEnd spot = spot.position ≡ End

-- some steps lead from the spot to the end of its thread
abbrev pub CanEnd : Prog → ℕ → Spot → Type 0
CanEnd p limit spot = Walk (StepsTo p limit) spot (end_of spot.thread)

-- all steps from the spots of the list lead to spots of the list
abbrev pub AreClosed : Prog → ℕ → List Spot → Type 0
AreClosed p limit spots = (a b : Spot) → Contains spots a → StepsTo p limit a b → Contains spots b

-- there is a place, and it is marked
abbrev pub IsMarked : List Bool → Option ℕ → Type 0
IsMarked marks place = (n : ℕ) × (place ≡ Some n) × (slice_get marks n ≡ Some true)

-- some step from the spot leads to one of the list whose place is marked
pub record SomeMarked (p : Prog) (limit : ℕ) (spots : List Spot) (marks : List Bool) (spot : Spot) : Type 0 where
  pub to : Spot
  pub place : ℕ
  pub step : StepsTo p limit spot to
  pub stands : slice_get spots place ≡ Some to
  pub marked : slice_get marks place ≡ Some true
