-- Marks at numbers.
use Rattle.std.specs.Prelude.{◌≡◌, ℕ, All, Bool, true, false, Contains, List, slice_index_or}

-- there is a mark at every number of the trail, and at no other
pub record IsMarked (marks : List Bool) (trail : List ℕ) : Type 0 where
  pub set : All (λ number. slice_index_or marks number false ≡ true) trail
  pub only : (number : ℕ) → slice_index_or marks number false ≡ true → Contains trail number

-- the same numbers have a mark
abbrev pub SameMarks : List Bool → List Bool → Type 0
SameMarks old new = (number : ℕ) → slice_index_or new number false ≡ slice_index_or old number false
