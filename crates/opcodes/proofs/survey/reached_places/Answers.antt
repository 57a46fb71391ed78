use Rattle.std.proofs.Common.{◌≡◌, [], subst, arith}
use Rattle.std.proofs.lemmas.Grind.{common_steps}
use Rattle.opcodes.specs.Survey.{IsSurvey}
use Rattle.opcodes.proofs.Surveys.{survey_whole}
use Rattle.opcodes.proofs.survey.reached_places.Goals as goal

pub returns : goal.returns
returns c =
    let none : c.loop-from.survey.waiting.items ≡ [] = grind (arith, common_steps, c.in_default.ensures.items, c.in_default.not-Some) in
    survey_whole c.args.code.now c.loop-from.survey.places.items
    (subst (IsSurvey c.args.code.now c.loop-from.survey.places.items) none c.loop-from.invariant)
