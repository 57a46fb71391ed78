-- Lists of places.
use Rattle.std.specs.Prelude.{◌<◌, ◌≤◌, ℕ, List, Contains}

-- the last place of a list below a bound
pub record IsLastBelow (places : List ℕ) (bound : ℕ) (i : ℕ) : Type 0 where
  pub there : Contains places i
  pub below : i < bound
  pub last : (k : ℕ) → Contains places k → k < bound → k ≤ i

abbrev pub NoneBelow : List ℕ → ℕ → Type 0
NoneBelow places bound = (k : ℕ) → Contains places k → k < bound → ⊥
