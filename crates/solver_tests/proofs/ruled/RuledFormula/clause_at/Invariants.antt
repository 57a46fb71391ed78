use Rattle.std.proofs.Common.{◌≡◌, map, take}
use Rattle.var_names.specs.LiteralNumbers.{lit_of}
use Rattle.solver_tests.proofs.ruled.RuledFormula.clause_at.Given as goal

-- the literals of the numbers so far
abbrev pub invariant-loop-number : goal.invariant-loop-number
invariant-loop-number l = l.clause ≡ map (lit_of l.self.formula.variables) (take l.number-index l.numbers)
