-- Ranks that no call makes greater. A call of a method of lower rank never leads back.
use Rattle.std.specs.Prelude.{◌≡◌, ◌≤◌, ◌+◌, ℕ, List, All, Some, slice_get, slice_index_or, ⊤}
use Rattle.resolution.specs.declared.target.Target.{Target}
use Rattle.resolution.specs.declared.target.Target.TheVariants as target
use Rattle.reached_methods.specs.Cycles.{StandsIn}
use Rattle.reached_methods.specs.declared.survey.Surveyed.{Surveyed}

-- the rank of the method at this place
abbrev pub rank_at : List ℕ → ℕ → ℕ
rank_at ranks at = slice_index_or ranks at 0

-- if the instruction of the method at this place is a call, then of a method whose rank is lower by this much
abbrev pub FallsBy : List Surveyed → List ℕ → ℕ → ℕ → Target → Type 0
FallsBy surveys ranks at drop (target.Call called) = (to : ℕ) × StandsIn surveys to called × (rank_at ranks to + drop ≤ rank_at ranks at)
FallsBy surveys ranks at drop _ = ⊤

-- so it is with each instruction of this method
abbrev pub AllFallBy : List Surveyed → List ℕ → ℕ → ℕ → Type 0
AllFallBy surveys ranks drop at = (s : Surveyed) → slice_get surveys at ≡ Some s → All (FallsBy surveys ranks at drop) s.method.targets

-- no call makes the rank greater
abbrev pub NoneRises : List Surveyed → List ℕ → Type 0
NoneRises surveys ranks = (at : ℕ) → AllFallBy surveys ranks 0 at
