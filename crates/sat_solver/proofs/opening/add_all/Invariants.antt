use Rattle.sat_solver.specs.Opened.{IsOpened}
use Rattle.sat_solver.proofs.opening.add_all.Given as goal

-- the clauses so far were added
abbrev pub invariant-loop-place : goal.invariant-loop-place
invariant-loop-place l = IsOpened l.formula l.search l.place
