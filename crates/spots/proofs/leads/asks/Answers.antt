-- Whether a thread is asked for.
use Rattle.std.proofs.Common.{true≢false, sym}
use Rattle.std.proofs.lemmas.List.{nil_from_length}
use Rattle.spots.proofs.Landing.{none_asked, nothing_asked, asked}
use Rattle.spots.proofs.leads.asks.Goals as goal

pub returns-in_default : goal.returns-in_default
returns-in_default c = (λ no. absurd (true≢false (sym no)), λ asks. absurd (none_asked c.args.program.now c.args.places.now (nil_from_length _ c.in_default.ensures.cases) asks))

pub returns-in-Err : goal.returns-in-Err
returns-in-Err c = (
  (λ no. absurd (true≢false (sym no))),
  (λ asks. absurd (nothing_asked c.args.program.now c.in-Some.at.now _ c.args.places.now c.in-Some.ensures.cases.0 c.in-Err.ensures.err.1 asks)),
)

pub returns-in-Ok : goal.returns-in-Ok
returns-in-Ok c =
    let is = asked c.args.program.now c.in-Some.at.now _ c.args.places.now c.in-Ok.here c.in-Some.ensures.cases.0 c.in-Ok.ensures.ok in
    (λ yes. is.0 (c.is_question.ensures.0 yes), λ asks. c.is_question.ensures.1 (is.1 asks))
