use Rattle.reached_methods.proofs.Steps.{permuted}
use Rattle.reached_methods.proofs.exploring.survey_all.Goals as goal

pub returns-clause-surveys : goal.returns-clause-surveys
returns-clause-surveys c =
    permuted c.args.classes.now c.args.main c.in_ok-surveys.surveys.items c.sort.new.surveys.items c.sort.ensures.same c.in_ok-surveys.ensures.surveys
