use Rattle.std.proofs.Common.{◌≡◌, length}
use Rattle.search_steps.specs.States.{AreWaiting}
use Rattle.search_steps.proofs.choice.next_open.Given as goal

abbrev pub invariant-loop-variable : goal.invariant-loop-variable
invariant-loop-variable l = record {
  waiting : AreWaiting l.trail.steps l.order;
  variables : l.order.variables ≡ l.initial.order.variables;
}

abbrev pub decreases-loop-variable : goal.decreases-loop-variable
decreases-loop-variable l = length l.order.waiting
