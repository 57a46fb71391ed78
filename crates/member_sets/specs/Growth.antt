-- Whether the sets of a sequence grow, step by step (JLS 17.4.8).
use Rattle.std.specs.Prelude.{◌≡◌, ◌<◌, ℕ, zero, suc, List, [], Option, Some, None, slice_get}
use Rattle.action_orders.specs.declared.action.ActionRef.{ActionRef}
use Rattle.action_orders.specs.declared.sequence.SequenceStep.{SequenceStep}
use Rattle.action_orders.specs.Causality.{IsProperSubset}

abbrev pub set_of : Option SequenceStep → List ActionRef
set_of (Some step) = step.set
set_of None = []

-- the set before the step at a place, which is empty before the first
abbrev pub set_before : List SequenceStep → ℕ → List ActionRef
set_before s zero = []
set_before s (suc place) = set_of (slice_get s place)

-- the set at a place is a proper superset of the set before it
abbrev pub GrowsAt : List SequenceStep → ℕ → Type 0
GrowsAt s place = IsProperSubset (set_before s place) (set_of (slice_get s place))

-- so it is at each of the first places
abbrev pub GrowsBelow : List SequenceStep → ℕ → Type 0
GrowsBelow s count = (place : ℕ) → place < count → GrowsAt s place

pub record IsFirstWithoutGrowth (s : List SequenceStep) (place : ℕ) : Type 0 where
  pub step : SequenceStep
  pub there : slice_get s place ≡ Some step
  pub stands_still : GrowsAt s place → ⊥
  pub earlier : GrowsBelow s place
