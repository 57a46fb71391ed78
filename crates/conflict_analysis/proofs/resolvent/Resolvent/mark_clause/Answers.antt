use Rattle.std.proofs.Common.{◌≡◌, sym, ◌∙◌, ap, subst}
use Rattle.clause_pool.specs.PoolValue.{IsIn, literals_at, or_empty}
use Rattle.clause_pool.proofs.Sound.{some_literals}
use Rattle.clause_pool.proofs.PoolLinks.{is_some_clause}
use Rattle.literals.specs.Propagation.{IsUnitBut}
use Rattle.trail.specs.Steps.{literals_of}
use Rattle.conflict_analysis.specs.Resolvents.{left_of}
use Rattle.conflict_analysis.proofs.resolvent.Resolvent.mark_clause.Goals as goal

pub mark_others-requires-clause-others_false : goal.mark_others-requires-clause-others_false
mark_others-requires-clause-others_false c =
    let same = some_literals c.requires.reason.literals c.lits.result.now (sym c.requires.reason.found ∙ c.lits.ensures.clause) in
    λ x i ne. c.requires.reason.unit.others_false x (subst (IsIn x) (sym same) i) ne

pub returns-clause-reason : goal.returns-clause-reason
returns-clause-reason c =
    let same = some_literals c.requires.reason.literals c.lits.result.now (sym c.requires.reason.found ∙ c.lits.ensures.clause) in
    let at : literals_at c.args.pool.now.clauses c.args.clause ≡ c.lits.result.now = ap or_empty c.lits.ensures.clause in
    record {
      known = is_some_clause c.args.pool.now.clauses c.args.clause c.lits.result.now c.lits.ensures.clause;
      unit = subst (λ ls. IsUnitBut (literals_of (left_of c.args.self.now c.args.trail.now)) ls c.args.literal) (same ∙ sym at) c.requires.reason.unit;
      marked = λ x i ne. c.mark_others.ensures.marked x (subst (IsIn x) at i) ne;
      kept = c.mark_others.ensures.kept;
    }
