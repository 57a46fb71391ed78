-- Where the first one may still be.
use Rattle.std.proofs.Common.{◌≡◌, ◌<◌, ◌≤◌, ◌-◌, ℕ, Some, slice_get, length}
use Rattle.step_members.specs.declared.table.Member.{Member}
use Rattle.same_orders.specs.Happening.{Happens}
use Rattle.same_orders.proofs.happening.first_after.Given as goal

abbrev pub invariant-loop-low : goal.invariant-loop-low
invariant-loop-low l = record {
  order : l.low ≤ l.high;
  within : l.high ≤ length l.members;
  before : (j : ℕ) (m : Member) → j < l.low → slice_get l.members j ≡ Some m → Happens l.stage.own.now l.at m.own → ⊥;
  after : (j : ℕ) (m : Member) → l.high ≤ j → slice_get l.members j ≡ Some m → Happens l.stage.own.now l.at m.own;
}

abbrev pub decreases-loop-low : goal.decreases-loop-low
decreases-loop-low l = l.high - l.low
