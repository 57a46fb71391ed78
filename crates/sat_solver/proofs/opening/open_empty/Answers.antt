use Rattle.std.proofs.Common.{◌∙◌, refl}
use Rattle.sat_solver.proofs.Empty.{opened-empty}
use Rattle.sat_solver.proofs.opening.open_empty.Goals as goal

pub returns : goal.returns
returns c =
    opened-empty c.args.formula.now _ c.in_ok-words.words c.in_ok-handles.handles c.in_ok-variables.variables c.in_ok-pool.ensures c.in_ok-trail.ensures c.wait_all.ensures.waiting
    (c.wait_all.ensures.variables ∙ c.in_ok-order.ensures.variables) c.in_ok-log.ensures.names c.in_ok-log.ensures.handles c.in_ok-log.ensures.derived c.in_ok-log.ensures.instances c.in_ok-analysis.ensures
    refl refl c.in_ok-variables.ensures.size c.in_ok-variables.ensures.few c.in_ok-variables.ensures.first
