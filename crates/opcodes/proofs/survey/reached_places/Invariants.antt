use Rattle.opcodes.specs.Survey.{IsSurvey, work_of}
use Rattle.opcodes.proofs.survey.reached_places.Given as goal

abbrev pub invariant-loop-from : goal.invariant-loop-from
invariant-loop-from l = IsSurvey l.code l.survey.places.items l.survey.waiting.items

abbrev pub decreases-loop-from : goal.decreases-loop-from
decreases-loop-from l = work_of l.survey.places.items l.survey.waiting.items
