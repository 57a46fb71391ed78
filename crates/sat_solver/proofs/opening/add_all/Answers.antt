use Rattle.std.proofs.Common.{arith, subst}
use Rattle.sat_solver.specs.Opened.{IsAddedTo}
use Rattle.sat_solver.proofs.Added.{opened-started}
use Rattle.sat_solver.proofs.opening.add_all.Goals as goal

pub loop-place-preserved : goal.loop-place-preserved
loop-place-preserved c = subst (IsAddedTo c.args.formula.now c.add_clause.new.search c.loop-place.place) c.in-Kept.is c.in_ok-add_clause.ensures

pub returns-in-Conflict : goal.returns-in-Conflict
returns-in-Conflict c = subst (IsAddedTo c.args.formula.now c.add_clause.new.search c.loop-place.place) c.in-Conflict.is c.in_ok-add_clause.ensures

pub returns : goal.returns
returns c = opened-started c.args.formula.now c.loop-place.search c.loop-place.place (omega arith) c.loop-place.invariant
