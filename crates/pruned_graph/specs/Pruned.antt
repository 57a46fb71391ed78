-- The nodes of a program's graph.
use Rattle.std.specs.Prelude.{◌≡◌, ◌<◌, ℕ, Bool, true, List, Contains, Some, length, slice_get}
use Rattle.program.specs.Bounds.{Ends}
use Rattle.program.specs.Program.{Prog}
use Rattle.spots.specs.Spots.{IsReached, begin_of}
use Rattle.spots.specs.declared.spot.Spot.{Spot}
use Rattle.kept_spots.specs.Ending.{CanEnd}

-- a thread reaches the spot, and can end from there
pub record IsNode (p : Prog) (limit : ℕ) (spot : Spot) : Type 0 where
  pub is_reached : IsReached p limit spot
  pub can_end : CanEnd p limit spot

-- a thread of the program that can't end with at most so many backward jumps
pub record NeverEnds (p : Prog) (limit thread : ℕ) : Type 0 where
  pub is_thread : thread < length p.threads
  pub never : Ends p thread limit → ⊥

-- the spot stands at a place of the list that is marked
pub record IsMarkedThere (spots : List Spot) (marks : List Bool) (spot : Spot) : Type 0 where
  pub place : ℕ
  pub stands : slice_get spots place ≡ Some spot
  pub marked : slice_get marks place ≡ Some true

-- one of so many threads whose beginning is not in the list
pub record HasNoBegin (spots : List Spot) (threads thread : ℕ) : Type 0 where
  pub is_thread : thread < threads
  pub none : Contains spots (begin_of thread) → ⊥
