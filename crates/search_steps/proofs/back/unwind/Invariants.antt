use Rattle.std.proofs.Common.{◌≡◌, length}
use Rattle.trail.specs.Steps.{back_in}
use Rattle.search_steps.specs.States.{IsState}
use Rattle.search_steps.proofs.back.unwind.Given as goal

abbrev pub invariant-loop-state : goal.invariant-loop-state
invariant-loop-state l = record {
  state : IsState l.state;
  back : back_in l.state.trail l.level ≡ back_in l.initial.state.trail l.level;
  pool : l.state.pool ≡ l.initial.state.pool;
}

abbrev pub decreases-loop-state : goal.decreases-loop-state
decreases-loop-state l = length l.state.trail.steps
