-- Places in a list.
use Rattle.std.specs.Prelude.{◌≡◌, ◌<◌, ℕ, List, Some, slice_get}

-- a stands in the list before b
pub record StandsBefore {A : Type 0} (xs : List A) (a b : A) : Type 0 where
  pub first : ℕ
  pub later : ℕ
  pub before : first < later
  pub is_first : slice_get xs first ≡ Some a
  pub is_later : slice_get xs later ≡ Some b
