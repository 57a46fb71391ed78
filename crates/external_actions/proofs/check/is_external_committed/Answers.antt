-- A print, or no external action.
use Rattle.external_actions.proofs.Covering.{external}
use Rattle.external_actions.proofs.check.is_external_committed.Goals as goal

pub returns-in-Print : goal.returns-in-Print
returns-in-Print c = external c.args.stage.now c.args.at c.action.result.now c.is_committed_if_needed.result c.requires.stage c.requires.inside c.action.ensures.same c.in-Print.is c.is_committed_if_needed.ensures
