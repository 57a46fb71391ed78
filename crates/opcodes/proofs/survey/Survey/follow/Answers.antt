use Rattle.opcodes.proofs.Surveys.{reached_survey}
use Rattle.opcodes.proofs.survey.Survey.follow.Goals as goal

pub returns-in_ok-reach-clause-survey : goal.returns-in_ok-reach-clause-survey
returns-in_ok-reach-clause-survey c =
    let some = c.in-Some.ensures.some in
    reached_survey c.args.code.now _ _ c.in-Some.to _ _ c.args.from some.0 (c.requires.reached c.in-Some.to some.0 some.1) c.in_ok-reach.ensures c.requires.survey
