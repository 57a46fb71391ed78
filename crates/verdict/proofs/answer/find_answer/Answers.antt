use Rattle.std.proofs.Common.{subst}
use Rattle.verdict.specs.Commands.{AsksFor}
use Rattle.verdict.specs.declared.request.Request.{Request}
use Rattle.verdict.proofs.answer.find_answer.Goals as goal

pub returns-in-Ok-clause-no_decide : goal.returns-in-Ok-clause-no_decide
returns-in-Ok-clause-no_decide g c =
    λ none. absurd (none c.in-Ok-Decide.question (subst (λ (r : Request). AsksFor c.args.words.now r) c.in-Ok-Decide.field-0-is c.in-Ok-Decide.ensures.ok))

pub returns-in-Err-decide-clause-no_decide : goal.returns-in-Err-decide-clause-no_decide
returns-in-Err-decide-clause-no_decide g c =
    λ none. absurd (none c.in-Ok-Decide.question (subst (λ (r : Request). AsksFor c.args.words.now r) c.in-Ok-Decide.field-0-is c.in-Ok-Decide.ensures.ok))
