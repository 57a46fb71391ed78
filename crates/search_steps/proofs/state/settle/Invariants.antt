use Rattle.std.proofs.Common.{◌-◌, length}
use Rattle.propagation.specs.Ready.{IsReady, IsSamePool}
use Rattle.search_steps.specs.States.{IsState, IsGrown}
use Rattle.search_steps.proofs.state.settle.Given as goal

abbrev pub invariant-loop-conflict : goal.invariant-loop-conflict
invariant-loop-conflict l = record {
  state : IsState l.state;
  ready : IsReady l.state.pool l.state.trail l.handled;
  same_pool : IsSamePool l.initial.state.pool l.state.pool;
  grown : IsGrown l.initial.state.trail l.state.trail;
}

abbrev pub decreases-loop-conflict : goal.decreases-loop-conflict
decreases-loop-conflict l = l.state.trail.variables - length l.state.trail.steps
