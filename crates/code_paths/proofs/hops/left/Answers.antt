-- The step behind the call.
use Rattle.code_paths.proofs.Exact.{left_none, left_one}
use Rattle.code_paths.proofs.hops.left.Goals as goal

pub returns-in_default-look : goal.returns-in_default-look
returns-in_default-look c = λ hop. (
  (λ none. absurd none),
  left_none c.args.program.now c.in-Some.caller.now c.in-Some.others.now c.args.callers.now hop c.in-Some.ensures.cases.0 c.in_default-look.ensures.err.1,
)

pub returns : goal.returns
returns c = λ hop.
    left_one c.args.program.now c.in-Some.caller.now c.next.result c.in-Some.others.now c.args.callers.now c.in_ok-to.to c.in-Ok.call hop c.in-Some.ensures.cases.0
    c.in-Ok.ensures.ok c.next.ensures c.in_ok-to.ensures
