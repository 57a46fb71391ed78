use Rattle.std.proofs.Common.{◌≡◌, ◌≤◌, ℕ, List, Option, length}
use Rattle.trail.specs.Steps.{back_in}
use Rattle.var_names.specs.Formulas.{FormulaValue}
use Rattle.search_steps.specs.States.{IsState}
use Rattle.logged_search.specs.Going.{Goes}
use Rattle.logged_search.specs.Tied.{IsPending}
use Rattle.logged_search.proofs.unwinding.unwind.Given as goal

abbrev pub invariant-loop-state : goal.invariant-loop-state
invariant-loop-state g l = record {
  state : IsState l.state;
  back : back_in l.state.trail l.level ≡ back_in l.initial.state.trail l.level;
  pool : l.state.pool ≡ l.initial.state.pool;
  derived : l.log.derived ≡ l.initial.log.derived;
  goes : (formula : FormulaValue) (clauses : List (Option (List ℕ))) (learned : List ℕ) → IsPending formula l.initial.state l.initial.log clauses learned
      → Goes formula l.initial.log l.log (g.S.Sink.held l.initial.out) (g.S.Sink.held l.out) clauses (λ after. IsPending formula l.state l.log after learned);
  kept : g.S.Sink.faults l.initial.out ≤ g.S.Sink.faults l.out;
  rest : g.S.Sink.same_rest l.initial.out l.out;
}

abbrev pub decreases-loop-state : goal.decreases-loop-state
decreases-loop-state g l = length l.state.trail.steps
