use Rattle.std.proofs.Common.{◌≢◌, AllPairs}
use Rattle.solver_tests.specs.Numbers.{HaveNumbersUpto}
use Rattle.solver_tests.proofs.ruled.clause_of.Given as goal

-- each literal stands once so far
abbrev pub invariant-loop-number : goal.invariant-loop-number
invariant-loop-number l = record {
  apart : AllPairs ◌≢◌ l.clause;
  upto : HaveNumbersUpto l.clause l.last;
}
