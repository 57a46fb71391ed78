use Rattle.std.proofs.Common.{◌-◌, ◌≤◌, []}
use Rattle.propagation.specs.Ready.{IsReady}
use Rattle.logged_search.specs.Going.{Goes}
use Rattle.logged_search.specs.Logged.{IsLogged}
use Rattle.sat_solver.proofs.deciding.decide.Given as goal

-- the lines so far, and how many of them are of clauses
abbrev pub invariant-loop-conflict : goal.invariant-loop-conflict
invariant-loop-conflict g l = record {
  goes : Goes l.formula l.initial.search.log l.search.log (g.S.Sink.held l.initial.out) (g.S.Sink.held l.out) [] (IsLogged l.formula l.search);
  ready : IsReady l.search.state.pool l.search.state.trail l.handled;
  within : l.search.log.derived ≤ l.budget;
  kept : g.S.Sink.faults l.initial.out ≤ g.S.Sink.faults l.out;
  rest : g.S.Sink.same_rest l.initial.out l.out;
}

abbrev pub decreases-loop-conflict : goal.decreases-loop-conflict
decreases-loop-conflict g l = l.budget - l.search.log.derived
