-- None of the first steps leads to a marked spot.
use Rattle.std.proofs.Common.{◌≡◌, ℕ, Contains, Some, slice_get, take, true}
use Rattle.spots.specs.declared.leads.Lead.{Lead}
use Rattle.kept_spots.proofs.ending.leads_to_marked.Given as goal

abbrev pub invariant-loop-step : goal.invariant-loop-step
invariant-loop-step l = (lead : Lead) (n : ℕ) → Contains (take l.step-index l.step-items) lead → slice_get l.spots n ≡ Some lead.to → slice_get l.marks n ≡ Some true → ⊥
