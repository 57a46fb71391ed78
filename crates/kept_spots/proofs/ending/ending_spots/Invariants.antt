-- The marks from a place on are right.
use Rattle.std.proofs.Common.{◌≡◌, ◌≤◌, ◌↔◌, ℕ, Some, length, slice_get, true}
use Rattle.spots.specs.declared.spot.Spot.{Spot}
use Rattle.kept_spots.specs.Ending.{CanEnd}
use Rattle.kept_spots.proofs.ending.ending_spots.Given as goal

abbrev pub invariant-loop-left : goal.invariant-loop-left
invariant-loop-left l = (length l.marks.items ≡ length l.spots) × (l.left ≤ length l.spots)
    × ((place : ℕ) (spot : Spot) → l.left ≤ place → slice_get l.spots place ≡ Some spot → (slice_get l.marks.items place ≡ Some true) ↔ CanEnd l.program l.limit spot)

abbrev pub decreases-loop-left : goal.decreases-loop-left
decreases-loop-left l = l.left
